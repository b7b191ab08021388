mod ElementLemmas
mod KeyLemmas
pub mod Laws
mod MappedLemmas
mod TextKeyLemmas
