-- Laws for this crate's code alone.
-- Assumes nothing.
pub mod Front
