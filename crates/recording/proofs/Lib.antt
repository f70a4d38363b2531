pub mod Records
pub mod CutShort
