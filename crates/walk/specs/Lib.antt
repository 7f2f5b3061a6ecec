pub mod Here
pub mod Walking
