pub mod FileLemmas
pub mod FieldLemmas
pub mod ValueLemmas
pub mod WordLemmas
pub mod OnceLemmas
pub mod SomeLemmas
pub mod Laws
pub mod SplitLemmas
