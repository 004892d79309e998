mod Ordered
mod Loaded
mod Pieces
mod Lawful
mod Treed
mod Waited
mod Rows
mod Halving
