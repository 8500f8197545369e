pub mod Told
pub mod Sizes
