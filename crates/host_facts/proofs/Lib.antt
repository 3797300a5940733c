pub mod FrameLaws
pub mod TraceLaws
pub mod PresentLaws
pub mod Told
