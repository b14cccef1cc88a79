-- Where each kind sits in a slice.
-- Assumes nothing.
pub mod Seats
pub mod Ranks
pub mod OneOutcome
