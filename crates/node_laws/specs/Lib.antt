pub mod Lives
pub mod Numbers
pub mod Rules
pub mod Commits
pub mod Voters
pub mod Rollbacks
pub mod Dones
