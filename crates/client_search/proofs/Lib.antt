pub mod Firsts
pub mod Searches
pub mod Endings
pub mod Staying
