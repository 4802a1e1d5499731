-- The definitions that the contracts cite, in the order to read them. 01 is the scope document; its words stand in quotes.
pub mod Refusal
pub mod Rules
pub mod Readings
pub mod Fields
pub mod Writable
pub mod Chunk
pub mod ReadOut
pub mod Calls
pub mod Kept
pub mod LampCurrent
pub mod Count
