pub mod Rows
pub mod Index
pub mod Afresh
pub mod Answers
