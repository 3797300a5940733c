pub mod Coded
pub mod Vouching
