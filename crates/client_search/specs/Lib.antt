pub mod AtStamp
pub mod Search
