pub mod Entries
pub mod Stages
pub mod Promise
pub mod OneAnswer
pub mod Positions
