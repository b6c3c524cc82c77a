pub mod Beside
pub mod Finds
