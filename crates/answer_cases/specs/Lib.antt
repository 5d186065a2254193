pub mod Translations
pub mod Listings
pub mod Words
