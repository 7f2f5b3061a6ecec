pub mod Texts
pub mod OneQrr
pub mod OnePaired
pub mod OneScor
pub mod OneIban
pub mod Laid
pub mod Promise
pub mod OneAnswer
