-- The definitions that the contracts cite, in the order to read them. 01 is the scope document; its words stand in quotes.
pub mod Places
pub mod Since
pub mod Records
pub mod Utf8
pub mod Text
pub mod Luminaire
pub mod Identity
pub mod BusUnit
pub mod Writes
pub mod Plan
pub mod Count
pub mod Cut
pub mod Claim
pub mod CutRun
pub mod Steps
pub mod Cases
