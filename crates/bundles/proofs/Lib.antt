pub mod Bundling
