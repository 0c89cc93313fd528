pub mod CellRecord
pub mod Arena
pub mod Rows
pub mod Columns
pub mod ColumnCells
pub mod Lending
pub mod Ending
pub mod CellId
