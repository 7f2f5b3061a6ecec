pub mod FixedLines
pub mod Glance
