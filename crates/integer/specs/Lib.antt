pub mod Tests
pub mod Sum
pub mod Floor
pub mod Within
