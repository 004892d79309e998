pub mod Buffered
pub mod Limits
pub mod Stream
pub mod SeveralParts
pub mod StreamInside
pub mod Held
pub mod HeldInside
pub mod Laws
