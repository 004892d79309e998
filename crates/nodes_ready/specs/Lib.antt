pub mod Ready
pub mod Staying
