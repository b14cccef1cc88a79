-- What the calls for a new plan owe: what each answers, and what the lent buffers hold then.
-- Assumes nothing.
pub mod Exports
pub mod OneOutcome
