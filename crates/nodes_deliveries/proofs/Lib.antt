mod Receiving
mod Delivered
mod Heard
mod CalledAgain
mod Flowed
