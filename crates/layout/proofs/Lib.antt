-- Laws of the definitions in specs/.
-- Assumes nothing.
pub mod Laws
