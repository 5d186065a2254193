pub mod Ends
pub mod Zero
pub mod Writes
