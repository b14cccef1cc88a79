-- The commands of a play: document 01, "The player".
-- Assumes nothing.
pub mod Command
pub mod Kept
pub mod OneOutcome
