pub mod Stretch
pub mod Cuts
pub mod Pieces
pub mod Counts
pub mod Laws
pub mod Example
