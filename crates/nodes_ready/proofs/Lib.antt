pub mod Keeping
pub mod Growing
pub mod EndsGrow
pub mod CallsGrow
pub mod FlowsGrow
pub mod LivesGrow
pub mod Readied
pub mod Deeds
