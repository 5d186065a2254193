pub mod Checking
pub mod Handed
