-- Laws that the proofs share.
-- Assumes nothing.
pub mod Arrays
pub mod Front
