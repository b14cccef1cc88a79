-- The laws of the view, the row and the seats.
-- Assumes nothing.
pub mod View
pub mod Row
pub mod Seat
pub mod Alike
pub mod Show
pub mod Found
pub mod Advance
pub mod Rank
