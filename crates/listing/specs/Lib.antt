pub mod Text
pub mod Names
pub mod Line
pub mod Walk
