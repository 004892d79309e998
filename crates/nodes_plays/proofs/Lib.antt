mod Walks
mod Played
