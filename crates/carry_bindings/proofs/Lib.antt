pub mod AmountLemmas
pub mod CarryLemmas
pub mod FitLemmas
pub mod NameLemmas
pub mod OutputLemmas
pub mod Laws
