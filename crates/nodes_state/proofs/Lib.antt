pub mod Reading
mod Indexed
pub mod InOrder
mod Registered
pub mod Doing
pub mod Failing
pub mod Progress
pub mod Named
mod Requested
mod Saying
