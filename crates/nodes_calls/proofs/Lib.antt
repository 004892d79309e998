mod Answering
mod Named
mod Ends
mod Drawn
mod Registered
