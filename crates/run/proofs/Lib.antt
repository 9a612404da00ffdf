pub mod Keeps
pub mod Waits
pub mod Going
