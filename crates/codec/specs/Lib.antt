-- Numbers as bytes and bits: fields of a list of widths, bytes as numbers, places, and rows of places one after the other.
-- Assumes nothing.
pub mod Pack
pub mod Bytes
pub mod Place
pub mod Places
pub mod Rows
pub mod OneOutcome
