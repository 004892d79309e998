pub mod Limits
pub mod Rows
pub mod Calls
pub mod Links
pub mod TreeInside
pub mod Laws
