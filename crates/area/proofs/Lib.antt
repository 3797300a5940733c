pub mod Tests
pub mod Sets
pub mod Fills
pub mod Rules
pub mod Same
pub mod Numbers
