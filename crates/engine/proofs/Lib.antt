pub mod Splits
pub mod Branches
