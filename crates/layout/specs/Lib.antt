pub mod Fields
pub mod Clients
pub mod Servers
pub mod Typed
pub mod Left
