-- One kind's unit: document 01, "Running", "In form" and the refusals 13 and 14; document 02 (ix).
-- Assumes nothing.
pub mod Unit
pub mod Form
pub mod Start
pub mod Step
pub mod OneOutcome
