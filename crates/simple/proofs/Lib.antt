pub mod Keeping
pub mod Broken
