pub mod Plans
pub mod Weights
