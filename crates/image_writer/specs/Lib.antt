-- Storing plans and states as images: what is stored is stated in crate `images`.
-- Assumes nothing.
pub mod OneOutcome
