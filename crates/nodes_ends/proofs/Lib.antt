pub mod EndChanged
mod Obeying
