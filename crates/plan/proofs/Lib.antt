pub mod Verdicts
pub mod Values
pub mod Links
pub mod Examples
pub mod Accepted
pub mod Weights
