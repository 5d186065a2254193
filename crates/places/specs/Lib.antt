pub mod Control
pub mod Table
pub mod Index
pub mod Lent
