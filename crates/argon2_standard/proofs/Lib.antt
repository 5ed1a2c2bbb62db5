pub mod Versions
pub mod Settings
