pub mod Loss
pub mod Losses
