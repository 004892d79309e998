pub mod Registered
pub mod Drawing
