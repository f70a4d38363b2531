pub mod Decimal
pub mod Lines
pub mod Pairs
pub mod Put
pub mod Short
pub mod Spaced
pub mod Times
pub mod Walks
