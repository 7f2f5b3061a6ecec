pub mod Digits
pub mod Iids
pub mod Letters
pub mod OneAnswer
