pub mod Promise
pub mod OneAnswer
