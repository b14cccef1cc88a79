-- Document 01's worked numbers as one proved claim.
-- Assumes nothing.
pub mod Table
