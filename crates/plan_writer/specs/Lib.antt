-- Writing plan bytes: what `write` answers is stated in crate `plan_bytes`.
-- Assumes nothing.
pub mod OneOutcome
