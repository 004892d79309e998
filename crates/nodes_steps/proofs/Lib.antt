mod Fronts
mod Named
mod Journals
mod Kept
