pub mod Views
pub mod Owed
pub mod Whole
pub mod Rounds
pub mod Late
pub mod Early
