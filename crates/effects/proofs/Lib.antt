pub mod Effects
pub mod Bounds
pub mod Opened
