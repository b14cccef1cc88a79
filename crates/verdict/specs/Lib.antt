-- The admission verdict: document 01, "Supply and verdict", and refusal 8. And the figures of a kind, which it compares.
-- Assumes nothing.
pub mod Verdict
pub mod Admission
pub mod Advice
pub mod Steps
pub mod Figures
pub mod OneOutcome
