pub mod Made
pub mod Piled
pub mod Season
pub mod Read
pub mod Swift
pub mod Mend
pub mod Handed
pub mod OneAnswer
