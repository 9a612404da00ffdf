pub mod Ghost
pub mod State
pub mod Shared
pub mod Lines
pub mod Rely
pub mod Kept
