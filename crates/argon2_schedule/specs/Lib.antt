pub mod Answers
pub mod Schedules
pub mod Statements
