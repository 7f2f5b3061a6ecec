pub mod Accents
pub mod Left
pub mod Lowest
pub mod Marked
pub mod OneAnswer
pub mod Runs
