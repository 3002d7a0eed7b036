pub mod Laws
pub mod Operations
pub mod FewestDigits
pub mod Digits
pub mod Reciprocals
