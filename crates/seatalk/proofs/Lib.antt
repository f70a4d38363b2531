pub mod Laid
pub mod Fits
pub mod Spelled
pub mod Laws
pub mod Kept
pub mod Recorded
