pub mod Answers
pub mod Room
