pub mod TablesLaws
pub mod FitLaws
pub mod CellLaws
pub mod RowLaws
pub mod HeadLaws
pub mod PairLaws
