pub mod Order
pub mod Sound
pub mod Handed
pub mod Held
pub mod Stays
pub mod Started
