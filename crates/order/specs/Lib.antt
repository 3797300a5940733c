pub mod Operations
pub mod Histories
pub mod Stages
pub mod Callers
pub mod Orders
pub mod Answers
