pub mod Responses
pub mod Fronts
pub mod Traces
pub mod Writings
pub mod Theorem
