pub mod Steps
pub mod Mending
pub mod Sweeping
pub mod Promised
pub mod Table
