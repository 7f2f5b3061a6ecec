pub mod Spoken
pub mod Laying
