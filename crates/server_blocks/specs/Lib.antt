pub mod Votes
pub mod Group
pub mod Stage
