pub mod Faults
pub mod Sizes
pub mod Lanes
pub mod Rules
pub mod Reset
