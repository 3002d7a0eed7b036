pub mod Flood
pub mod Counting
