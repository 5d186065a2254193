pub mod Arithmetic
pub mod FlagsExact
pub mod ProductsExact
