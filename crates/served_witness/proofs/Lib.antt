pub mod Traces
pub mod AllDelivered
