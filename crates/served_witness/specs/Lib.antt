pub mod AllDelivered
