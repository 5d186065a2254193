pub mod Translations
pub mod Listings
