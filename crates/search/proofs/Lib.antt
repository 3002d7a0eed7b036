pub mod Sets
pub mod Marks
pub mod Finds
pub mod Answers
pub mod Pairs
pub mod Largest
