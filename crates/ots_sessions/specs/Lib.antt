pub mod References
pub mod Short
pub mod Replies
pub mod Sessions
pub mod RepliesInside
pub mod SessionsInside
