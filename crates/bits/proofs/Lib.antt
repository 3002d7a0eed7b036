pub mod Digits
pub mod Operations
pub mod Places
