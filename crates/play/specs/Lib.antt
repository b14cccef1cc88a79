-- The program `play`: its loop over standard input, and the example of document 01, "The player".
-- Assumes nothing.
pub mod Desk
pub mod Example
