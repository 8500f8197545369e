pub mod Rows
pub mod LookUps
pub mod Pushes
pub mod Belonging
