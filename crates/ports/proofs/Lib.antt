pub mod Outcomes
pub mod Refused
pub mod Frames
