pub mod Reader
pub mod Conditions
pub mod Strict
pub mod Jmpl
pub mod Joined
pub mod RoundTrip
