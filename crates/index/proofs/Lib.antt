pub mod Tickets
pub mod Bit
