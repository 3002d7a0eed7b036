pub mod Places
pub mod Workable
