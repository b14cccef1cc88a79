-- What a plan is and when its record is in order: document 01, "What the base holds", and the refusals 2 to 7; and the same with one
-- project's budget left open, document 02 (i), with 27.
-- Assumes nothing.
pub mod Record
pub mod Order
pub mod Open
pub mod Example
pub mod OneOutcome
