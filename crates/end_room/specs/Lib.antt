pub mod Place
pub mod Sharing
pub mod Deeds
pub mod Own
pub mod Inside
