pub mod Beginning
pub mod Calling
pub mod Keeping
pub mod Coming
pub mod Answering
pub mod Carrying
pub mod Called
