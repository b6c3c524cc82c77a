pub mod Calls
pub mod Same
pub mod Combination
pub mod Reason
pub mod KnownResults
pub mod Acceptance
