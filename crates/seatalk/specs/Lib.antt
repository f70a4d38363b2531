pub mod Returned
pub mod Hear
pub mod Read
pub mod Write
pub mod Record
