pub mod Placewise
pub mod Sums
pub mod Rows
pub mod Orders
pub mod Nans
