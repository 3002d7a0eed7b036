pub mod Changes
pub mod Nodes
pub mod Clearing
pub mod Laws
