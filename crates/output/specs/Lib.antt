-- Standard output for the programs that print a table.
-- Assumes nothing.
pub mod Output
pub mod OneOutcome
