-- What an operation answers and leaves: document 01, "Numbers given back when we say no", and outcomes.
-- Assumes nothing.
pub mod Answer
pub mod Word
pub mod Numbers
pub mod Outcome
pub mod OneOutcome
