-- What the calls for a verdict owe: what each answers, and what the lent buffers hold then.
-- Assumes nothing.
pub mod Exports
pub mod OneOutcome
