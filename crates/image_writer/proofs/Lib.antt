-- Laws that the proofs share.
-- Assumes nothing.
pub mod Chunk
