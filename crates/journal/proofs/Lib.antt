pub mod Bytes
pub mod Feeds
