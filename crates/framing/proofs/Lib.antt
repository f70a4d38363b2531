pub mod Gathering
pub mod Walks
pub mod Ahead
pub mod Steps
pub mod Reach
