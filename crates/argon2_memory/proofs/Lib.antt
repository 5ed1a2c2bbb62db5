pub mod Recurrences
pub mod AnyOrder
pub mod Entries
pub mod ReferenceSets
pub mod Filled
pub mod Slices
