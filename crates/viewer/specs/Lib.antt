pub mod View
pub mod Held
