pub mod Refusals
pub mod Ports
pub mod Orders
pub mod Clocks
pub mod Moves
pub mod Combinations
pub mod Below
pub mod Both
