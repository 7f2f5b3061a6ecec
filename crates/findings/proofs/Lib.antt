pub mod FirstFault
pub mod OneAnswer
