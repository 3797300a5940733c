pub mod Entries
pub mod Choice
pub mod Needs
