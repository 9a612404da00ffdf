pub mod Layout
pub mod Touch
pub mod Pool
pub mod Lists
pub mod Cells
pub mod Laws
