-- The layout of budgets onto cards: document 01, "Layout".
-- Assumes nothing.
pub mod Cards
pub mod Layout
pub mod Table
pub mod Walk
pub mod OneOutcome
