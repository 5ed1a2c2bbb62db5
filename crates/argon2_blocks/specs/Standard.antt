-- The definitions of RFC 7693 and RFC 9106, in the order in which to read them. Contracts of public
-- calls on hashes and blocks use them. The definitions contain no code, loop or memory matrix.
pub mod Word
pub mod Blake2b
pub mod Hprime
pub mod Block
pub mod Compression
