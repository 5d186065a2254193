pub mod Reader
pub mod Conditions
pub mod Flow
pub mod Writer
pub mod RoundTrip
