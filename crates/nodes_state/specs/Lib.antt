pub mod Telling
pub mod Casting
pub mod Seated
pub mod Shown
pub mod Does
