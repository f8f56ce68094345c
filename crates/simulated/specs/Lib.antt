pub mod New
pub mod Size
pub mod Simulated
pub mod Posts
pub mod Snapshots
