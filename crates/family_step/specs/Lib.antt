pub mod Acting
pub mod Reserving
pub mod FamilyInside
pub mod Asking
pub mod Callers
pub mod Earlier
