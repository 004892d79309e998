pub mod Limits
pub mod Script
