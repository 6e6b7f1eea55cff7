pub mod UnitedPlaces
pub mod Numbering
pub mod Straps
