pub mod Admission
pub mod BalanceViews
pub mod RowViews
