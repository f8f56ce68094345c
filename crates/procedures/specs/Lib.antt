pub mod Silences
pub mod Procedure
pub mod Performed
pub mod Performs
pub mod Leaves
pub mod Laws
