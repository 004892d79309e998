mod Asking
mod Counts
mod Putting
