pub mod Writing
pub mod Decimal
pub mod Lines
pub mod Listing
pub mod Example
