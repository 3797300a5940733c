pub mod Folds
pub mod Total
pub mod Written
pub mod Presents
pub mod Example
pub mod Needed
