pub mod Refusals
pub mod Whole
pub mod Padding
pub mod Front
pub mod Position
