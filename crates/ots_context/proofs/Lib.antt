pub mod Given
pub mod Faults
pub mod Exact
pub mod Tails
pub mod Room
pub mod Again
pub mod Placing
