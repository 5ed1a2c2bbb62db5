-- How types and steps of the code look to contracts. Two of these definitions are in the contract
-- of a public call: `Lanes.lane` in that of `permute_lanes`, and `Lends.lends_word` in that of
-- `IndexMut for Block`. The others are for private functions: nobody has to read them to believe
-- the public ones.
pub mod Lends
pub mod HasherView
pub mod Lanes
pub mod Rounds
