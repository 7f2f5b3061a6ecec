pub mod Handing
pub mod Laying
pub mod Stages
pub mod OneAnswer
