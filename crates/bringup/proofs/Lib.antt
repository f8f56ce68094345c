pub mod Wents
