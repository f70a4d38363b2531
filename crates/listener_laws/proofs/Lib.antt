pub mod Framing
pub mod Demand
pub mod Instance
pub mod PilotInstance
pub mod RuledOut
pub mod Laws
