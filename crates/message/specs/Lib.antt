pub mod Table
pub mod Fields
pub mod Range
pub mod Spelling
pub mod Decode
pub mod Reading
