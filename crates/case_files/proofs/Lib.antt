pub mod Areas
pub mod Verdicts
