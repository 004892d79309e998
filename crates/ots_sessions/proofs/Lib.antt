pub mod Calls
pub mod Contexts
pub mod Ends
pub mod Going
pub mod Jobs
pub mod Located
pub mod Unfit
