-- How the types and the steps of the code look to contracts. Root calls in Rattle do not use them
-- in clauses; C's calls over caller-provided blocks do.
pub mod Jobs
pub mod Segments
pub mod Places
pub mod Filling
pub mod References
pub mod Memories
