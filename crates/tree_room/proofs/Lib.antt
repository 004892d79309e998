mod Staying
mod Tails
