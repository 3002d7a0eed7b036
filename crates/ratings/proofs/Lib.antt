pub mod Examples
pub mod Table
pub mod Laws
pub mod Joints
