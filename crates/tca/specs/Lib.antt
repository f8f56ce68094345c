pub mod Families
pub mod Fields
pub mod Records
pub mod Table
pub mod Bytes
