pub mod FieldLaws
pub mod PinLaws
pub mod PadLaws
pub mod TableLaws
pub mod PageLaws
pub mod Accepted
pub mod WantedKind
