pub mod World
pub mod Admissible
pub mod Events
pub mod Blocks
pub mod Demand
pub mod Answers
pub mod Promises
pub mod Gapless
