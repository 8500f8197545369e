pub mod Breaks
pub mod Text
pub mod Steps
pub mod Numbers
pub mod Tables
pub mod Parts
pub mod Rides
