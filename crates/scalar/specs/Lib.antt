pub mod Ops
pub mod Order
pub mod Kind
pub mod Floats
pub mod Vectors
pub mod Nan
pub mod FloatTimes
pub mod FloatOrder
