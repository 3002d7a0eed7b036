pub mod Largest
pub mod Fits
pub mod Arms
pub mod Places
