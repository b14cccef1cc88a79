-- The workload of a plan's kinds: document 01, "Supply and verdict".
-- Assumes nothing.
pub mod Workload
pub mod OneOutcome
