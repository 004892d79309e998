pub mod Lists
mod Placed
mod Numbered
mod Ending
mod NameLemmas
mod Found
pub mod SharedLemmas
mod Referred
mod Waiting
mod Seams
mod Filled
mod Unsynced
mod Walking
