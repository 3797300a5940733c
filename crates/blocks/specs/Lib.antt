pub mod Params
pub mod Poly
pub mod Code
pub mod Calls
pub mod Exact
pub mod Answers
