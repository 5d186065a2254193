pub mod Runs
pub mod Trails
