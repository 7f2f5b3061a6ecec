pub mod ByteByByte
pub mod Counts
pub mod Lays
pub mod OneAnswer
pub mod Parts
