pub mod Formed
pub mod FromFn
pub mod Limited
