pub mod Outcome
pub mod Carrying
pub mod Chains
pub mod Demands
