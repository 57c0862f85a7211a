pub mod Bits
pub mod Tables
pub mod Pushes
pub mod Tries
pub mod Asking
pub mod Readings
