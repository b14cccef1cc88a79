-- Laws that every crate above shares. A module holds a definition; its `Properties` holds the laws.
-- Assumes nothing.
pub mod Tests
pub mod Loops
pub mod Sum
pub mod Least
pub mod First
pub mod Count
pub mod All
pub mod Written
pub mod Where
pub mod Ranking
