pub mod Texts
pub mod StoredHashes
pub mod Verdicts
