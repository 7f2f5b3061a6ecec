pub mod Serves
pub mod DemandThree
pub mod Numbers
pub mod Forms
pub mod Amounts
pub mod LazyVerdicts
pub mod Editions
pub mod OneAnswer
