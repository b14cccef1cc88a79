-- The smallest budget of a project: document 02 (i). Moving a project's first cell never alters its supply, and a greater budget never
-- takes a fit away.
-- Assumes nothing.
pub mod Turning
pub mod Staying
pub mod Rotation
pub mod Flat
pub mod Growth
pub mod Smallest
pub mod Steps
pub mod OneOutcome
