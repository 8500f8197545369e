pub mod Knots
pub mod Weights
pub mod Segments
pub mod Held
