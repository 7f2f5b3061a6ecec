pub mod CharacterKinds
pub mod Laid
