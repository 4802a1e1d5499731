-- The definitions that the contracts cite, in the order to read them. 01 is the scope document; its words stand in quotes.
pub mod File
pub mod Listing
pub mod Steps
