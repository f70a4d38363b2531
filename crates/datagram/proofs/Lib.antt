pub mod Padding
pub mod Whole
pub mod Zeros
pub mod Lent
