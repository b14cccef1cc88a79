-- Finding plans and states in images: what is found is stated in crate `images`.
-- Assumes nothing.
pub mod OneOutcome
