pub mod Limits
pub mod OfKind
