pub mod Scripts
pub mod Lines
pub mod Told
pub mod Plays
