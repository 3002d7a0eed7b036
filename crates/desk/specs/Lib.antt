pub mod Outcomes
pub mod Answers
pub mod BuiltIn
