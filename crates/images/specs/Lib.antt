-- The images of a plan and of a state: the bytes, what is found in a lent buffer and what is stored there.
-- Assumes nothing.
pub mod Image
pub mod Lent
pub mod FiguresImage
pub mod Typed
pub mod RoundTrip
pub mod Outcome
