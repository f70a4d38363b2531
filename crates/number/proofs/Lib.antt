pub mod Finite
pub mod Arms
pub mod Signed
pub mod Longs
