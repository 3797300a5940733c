pub mod Columns
pub mod Spaced
pub mod Lines
pub mod Pages
pub mod Layings
pub mod Parts
pub mod Fields
pub mod Theorem
