pub mod State
pub mod Rules
pub mod Laws
pub mod Told
pub mod Sent
pub mod Answers
pub mod Posts
