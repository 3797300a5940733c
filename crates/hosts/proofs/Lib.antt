pub mod Hosted
pub mod RefusalNumbers
