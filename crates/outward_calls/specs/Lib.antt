pub mod Moment
pub mod Words
pub mod WordsInside
