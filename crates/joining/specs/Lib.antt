pub mod Handing
pub mod Stages
