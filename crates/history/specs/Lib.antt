pub mod Board
pub mod Log
pub mod History
