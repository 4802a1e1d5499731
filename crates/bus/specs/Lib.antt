-- The definitions that the contracts cite, in the order to read them. 01 is the scope document, 02
-- that of the change requests; their words stand in quotes.
pub mod Number
pub mod Width
pub mod SignedCases
pub mod Value
pub mod Contiguous
pub mod Maps
pub mod Part251
