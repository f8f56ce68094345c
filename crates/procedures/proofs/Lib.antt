pub mod Decided
pub mod Left
pub mod Silent
pub mod Rows
pub mod Steps
pub mod Carried
pub mod Reading
