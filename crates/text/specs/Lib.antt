pub mod Ascii
pub mod Number
pub mod Line
pub mod Print
