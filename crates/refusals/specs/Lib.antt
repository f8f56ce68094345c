pub mod Connections
pub mod Statuses
