pub mod Laws
pub mod Tables
pub mod Climbs
pub mod Answers
