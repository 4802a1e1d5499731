pub mod Tests
pub mod Lists
pub mod Contiguous
pub mod Number
pub mod Width
pub mod Value
pub mod Signed
pub mod Maps
