pub mod Ahead
pub mod Verdicts
mod Bytes
pub mod Demands
