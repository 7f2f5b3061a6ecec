pub mod Packing
pub mod Calls
pub mod Telling
