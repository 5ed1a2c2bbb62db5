pub mod UsageErrors
pub mod Passwords
pub mod Statuses
