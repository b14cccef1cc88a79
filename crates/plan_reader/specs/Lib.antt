-- Reading plan bytes: what `read` and `standing` answer is stated in crate `plan_bytes`.
-- Assumes nothing.
pub mod OneOutcome
