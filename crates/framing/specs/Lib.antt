pub mod Walk
pub mod Taken
