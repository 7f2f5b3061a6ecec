pub mod LinesIn
pub mod Parted
pub mod Results
