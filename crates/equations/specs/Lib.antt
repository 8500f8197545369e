pub mod Model
pub mod Contact
pub mod Creep
pub mod Layers
