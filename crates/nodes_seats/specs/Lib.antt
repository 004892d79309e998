pub mod Whole
pub mod Carries
pub mod Placed
pub mod Waiting
pub mod Ticking
