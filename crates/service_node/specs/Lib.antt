pub mod NodeState
pub mod Faults
pub mod Journaling
pub mod Applying
pub mod Crashes
pub mod Ticking
pub mod Given
