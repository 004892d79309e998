pub mod Tids
pub mod Names
