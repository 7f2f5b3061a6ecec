pub mod OverBills
pub mod Paying
pub mod Accepting
pub mod Trying
pub mod Stages
pub mod Promise
pub mod OneAnswer
