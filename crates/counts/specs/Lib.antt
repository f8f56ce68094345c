pub mod Tally
pub mod Run
pub mod Law
