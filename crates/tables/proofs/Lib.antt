pub mod Examples
pub mod Theorems
