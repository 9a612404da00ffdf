pub mod Command
pub mod Replay
pub mod Feed
pub mod Cuts
