-- A simple form for one-kind projects: document 02 (vi). The divisor, the list, the plan that is built, and that it is admitted.
-- Assumes nothing.
pub mod Divisor
pub mod Wanted
pub mod Built
pub mod Steps
pub mod WholeFrames
pub mod Admitted
pub mod Exact
pub mod Told
pub mod OneOutcome
