pub mod Near
pub mod HalfSum
pub mod Value
pub mod Slope
pub mod Trend
