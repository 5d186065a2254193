pub mod FlagsExact
pub mod Products
pub mod ProductsExact
