-- The player: document 01, "The player".
-- Assumes nothing.
pub mod Turn
pub mod Played
pub mod Session
pub mod Stream
pub mod OneOutcome
