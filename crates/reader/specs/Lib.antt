pub mod OfKind
