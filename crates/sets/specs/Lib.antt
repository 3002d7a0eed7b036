pub mod Sets
pub mod Bundles
pub mod Polynomial
