mod Names
mod Keeping
mod Doing
