mod Among
mod Played
mod Phased
mod Rightly
mod Outcomes
mod NodesPlayed
mod Numbers
mod Objects
