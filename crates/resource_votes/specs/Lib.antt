pub mod Limits
pub mod Lists
pub mod ChainsInside
pub mod LinksInside
pub mod Ballots
pub mod History
pub mod Numbers
pub mod VotesInside
