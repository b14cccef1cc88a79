-- The laws of the layout.
-- Assumes nothing.
pub mod Layout
pub mod Front
pub mod Walk
pub mod Table
