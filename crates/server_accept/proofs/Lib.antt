pub mod Telling
pub mod Replacing
pub mod Acceptance
