pub mod Stores
pub mod Rows
pub mod Calls
pub mod Back
