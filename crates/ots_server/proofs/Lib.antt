mod Calls
mod Counts
mod Told
