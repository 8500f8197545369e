pub mod Laned
pub mod Alphas
pub mod Roots
pub mod Fits
