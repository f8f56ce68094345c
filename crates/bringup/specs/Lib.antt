pub mod Went
pub mod Opening
