pub mod Grouping
pub mod Laying
pub mod Putting
