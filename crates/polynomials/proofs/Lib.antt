pub mod Ahead
pub mod Evals
