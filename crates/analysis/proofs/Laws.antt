-- The proofs of the theory: what its definitions' laws are, and the theorem.
-- Assumes nothing.
pub mod EarliestFirst
pub mod Ahead
pub mod Step
pub mod Moment
pub mod OnTrack
