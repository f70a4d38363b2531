pub mod Files
pub mod Written
pub mod Reread
pub mod Laws
pub mod Examples
