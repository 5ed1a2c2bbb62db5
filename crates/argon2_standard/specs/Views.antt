-- How the types look to the contracts of their own calls. No contract of a root call (`argon2::NAME`) uses
-- these definitions.
pub mod Names
pub mod Presets
pub mod Messages
