-- The supply of a project, the workload against it and the least k that fits: document 01, "Supply and verdict".
-- Assumes nothing.
pub mod Supply
pub mod Workload
pub mod Greatest
pub mod Fit
pub mod OneOutcome
