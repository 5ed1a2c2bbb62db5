-- The definitions of RFC 9106 beyond BLAKE2b, H' and the compression, and those of encoded hashes, in reading
-- order. With those of `argon2_blocks` they are all that tags, verdicts and strings rest on.
pub mod Variant
pub mod Version
pub mod SettingsTable
pub mod Setting
pub mod Prehash
pub mod Reference
pub mod Recurrence
pub mod Tag
pub mod ThreadModes
pub mod Outcome
pub mod Text
pub mod Grammar
pub mod Decoded
