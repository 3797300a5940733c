pub mod Outcomes
pub mod Frames
pub mod Kinds
pub mod Traces
pub mod Present
