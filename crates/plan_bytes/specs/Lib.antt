-- Plan bytes: document 01, "Plan bytes".
-- Assumes nothing.
pub mod Parts
pub mod Reading
pub mod Writing
pub mod RoundTrip
pub mod OneOutcome
