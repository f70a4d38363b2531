pub mod Numbers
pub mod Naming
