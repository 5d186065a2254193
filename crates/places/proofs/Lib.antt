pub mod Flows
pub mod Rows
pub mod Chains
pub mod Lending
