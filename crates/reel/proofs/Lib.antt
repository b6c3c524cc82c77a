pub mod Scans
pub mod Contracts
