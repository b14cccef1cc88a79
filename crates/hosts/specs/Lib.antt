-- What a host is promised: each number given back is read again, a chain of calls of the C interface on one image is a run of the rack,
-- demand 3 holds of what it sees, a flip in the bytes of a sum or of slices left is told, and the figures of a kind stand in the bytes
-- that it reads.
-- Assumes nothing.
pub mod Words
pub mod Rescued
pub mod Chain
pub mod Events
pub mod Promised
pub mod Flips
pub mod FlipsTold
pub mod Figures
