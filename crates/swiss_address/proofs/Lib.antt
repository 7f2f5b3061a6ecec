mod Addresses
pub mod OneAnswer
