-- How the types and the steps of the code look to contracts. No contract of a root call (`argon2::NAME`)
-- uses these definitions.
pub mod Faults
pub mod Cutting
pub mod Letters
pub mod Texts
