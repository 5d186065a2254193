pub mod Areas
pub mod Choice
pub mod Lists
pub mod Bounds
pub mod Number
