pub mod Binomial
pub mod Polynomial
pub mod Blend
pub mod HalfSum
pub mod RunningSums
pub mod Slope
pub mod Water
