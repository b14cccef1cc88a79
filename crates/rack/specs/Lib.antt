-- The dispatcher: document 01, "Running", and the refusals 8 to 16; document 02 (vii) and (ix). Seat says how a row is found, and
-- Found what from.
-- Assumes nothing.
pub mod State
pub mod Sums
pub mod Form
pub mod View
pub mod Rank
pub mod Row
pub mod Release
pub mod Advance
pub mod Show
pub mod Slice
pub mod Start
pub mod Alike
pub mod OneOutcome
pub mod Seat
pub mod Found
