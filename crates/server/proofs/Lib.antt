pub mod Sending
pub mod Scopes
pub mod Present
pub mod Answers
pub mod Constructing
pub mod Handling
