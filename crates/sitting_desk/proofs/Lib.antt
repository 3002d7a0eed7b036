pub mod Outcomes
pub mod Carrying
pub mod Places
pub mod Chains
pub mod Demands
