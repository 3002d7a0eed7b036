pub mod Sittings
pub mod Entries
