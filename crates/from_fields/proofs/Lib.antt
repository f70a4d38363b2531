pub mod Loads
pub mod Flags
pub mod Rows
pub mod Each
