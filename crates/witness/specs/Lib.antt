pub mod Toy
pub mod WriteRead
pub mod FalseParties
pub mod Colliding
pub mod Refusals
pub mod Contending
pub mod Waiting
