pub mod Divides
pub mod Machine
