pub mod Networks
pub mod Exact
pub mod Rule
pub mod Comparisons
pub mod Terminals
pub mod Simple
