pub mod Records
pub mod Handed
pub mod Rounds
pub mod Answers
