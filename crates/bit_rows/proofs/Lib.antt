pub mod RowChecked
