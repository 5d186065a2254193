pub mod Ends
pub mod Registers
