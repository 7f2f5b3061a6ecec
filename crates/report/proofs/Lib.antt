pub mod Adding
pub mod Promise
pub mod OneAnswer
