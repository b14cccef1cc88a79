-- The laws of the supply and of what fits.
-- Assumes nothing.
pub mod Supply
pub mod Fit
