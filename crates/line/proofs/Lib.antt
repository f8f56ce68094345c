pub mod Memory
pub mod Acts
pub mod Implied
pub mod Rows
pub mod Posting
