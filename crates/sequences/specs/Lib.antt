pub mod Runs
pub mod Called
pub mod RoundTrips
pub mod Operators
pub mod Combination
pub mod Reasons
pub mod Same
pub mod Sequences
