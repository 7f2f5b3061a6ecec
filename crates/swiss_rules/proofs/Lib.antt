mod Groups
mod References
pub mod OneAnswer
mod Right
