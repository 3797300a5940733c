pub mod Reports
pub mod Playback
pub mod Answers
pub mod Records
pub mod Stages
pub mod Theorem
pub mod Resume
pub mod Journal
