pub mod Live
pub mod Invariant
pub mod Statuses
pub mod Starts
pub mod Looks
pub mod Keeps
pub mod Attaches
pub mod Holds
