pub mod Onward
pub mod Standing
pub mod Places
pub mod Promise
pub mod OneAnswer
