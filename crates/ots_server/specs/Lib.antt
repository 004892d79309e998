pub mod Acts
pub mod Answers
pub mod Said
pub mod Site
pub mod Telling
pub mod StepsInside
