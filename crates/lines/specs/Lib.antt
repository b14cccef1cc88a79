-- The lines that the player prints: document 01, "The player".
-- Assumes nothing.
pub mod Ascii
pub mod Text
pub mod Line
pub mod OneOutcome
