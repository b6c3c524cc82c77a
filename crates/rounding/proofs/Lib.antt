pub mod Agree
pub mod Bounds
pub mod Scaling
pub mod Fits
pub mod Distance
pub mod Taylor
pub mod Integral
pub mod Combination
