pub mod Half
pub mod Degree
pub mod Spellings
pub mod Quarter
