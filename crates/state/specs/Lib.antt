pub mod Answers
pub mod Move
pub mod MoveLaws
pub mod List
pub mod ListLaws
pub mod Tests
