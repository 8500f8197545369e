pub mod Breaking
pub mod Cutting
pub mod Comparing
pub mod Counting
pub mod Rowing
pub mod Lining
pub mod Ordering
pub mod Laws
