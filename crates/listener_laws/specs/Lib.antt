pub mod Form
pub mod Demand
pub mod Laws
