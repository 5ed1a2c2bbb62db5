pub mod Standard
pub mod Views
