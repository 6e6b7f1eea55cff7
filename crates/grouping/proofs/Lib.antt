pub mod Nth
pub mod OwnNets
pub mod PinSets
pub mod SetLoops
mod UnitedSets
