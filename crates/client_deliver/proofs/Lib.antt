pub mod Rooms
pub mod OwnBlocks
pub mod Senders
pub mod Answers
pub mod WriteLaws
pub mod ReadLaws
pub mod Deliveries
