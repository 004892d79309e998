pub mod Agreement
pub mod Carrying
pub mod Going
pub mod Lent
pub mod Quiet
pub mod Standing
pub mod Stands
pub mod WorldInside
