pub mod BottomMeaning
pub mod LoadFaults
pub mod Fitting
