pub mod Fields
pub mod Bytes
pub mod Block
pub mod Reading
pub mod View
pub mod Carried
