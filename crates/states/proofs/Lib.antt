pub mod Filled
pub mod Starts
pub mod Ended
