mod Stored
mod Going
