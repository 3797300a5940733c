pub mod State
pub mod Rows
pub mod Tests
pub mod Steps
pub mod Answers
pub mod Delivery
pub mod Beginning
pub mod WellFormed
