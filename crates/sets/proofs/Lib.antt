pub mod Worths
pub mod Counting
pub mod Polynomial
pub mod Few
pub mod Ahead
