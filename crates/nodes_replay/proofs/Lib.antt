mod Carried
mod Flowing
mod Promises
mod Safely
