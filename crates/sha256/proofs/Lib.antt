pub mod Turns
pub mod Words
pub mod Padding
pub mod Bytes
