pub mod Forms
pub mod RoundTrip
