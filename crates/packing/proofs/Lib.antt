pub mod Packing
pub mod Telling
pub mod Beside
pub mod Calls
pub mod OneAnswer
