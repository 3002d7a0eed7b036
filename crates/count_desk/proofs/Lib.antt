pub mod Verdicts
pub mod Demands
pub mod Ahead
pub mod Polynomial
