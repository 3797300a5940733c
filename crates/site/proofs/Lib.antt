pub mod Cases
pub mod ShortLaws
