pub mod Report
pub mod Machine
