-- The rules as they stood before document 02 (ix), with a clock that ends at 1,000,000,000 and the refusals 11 and 15: definitions alone.
-- No operation is one of them: they are what the rules without a clock are held to (NoClock). What names no clock is not said again here:
-- plans, answers, cards, and what a project decides by its view are those of the crates below.
-- Assumes nothing.
pub mod State
pub mod Form
pub mod Rank
pub mod Row
pub mod Release
pub mod Show
pub mod Advance
pub mod Run
