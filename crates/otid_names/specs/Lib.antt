pub mod Limits
pub mod Otid
pub mod Own
pub mod Name
pub mod Laws
