pub mod Hall
pub mod Halls
