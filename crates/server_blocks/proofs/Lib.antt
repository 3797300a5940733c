pub mod Counts
pub mod Comparison
pub mod Rooms
pub mod Voting
pub mod Fewer
pub mod BlockSteps
