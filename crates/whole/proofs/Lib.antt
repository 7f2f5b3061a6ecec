mod Stages
pub mod Judging
pub mod Shown
pub mod Reading
pub mod OneAnswer
