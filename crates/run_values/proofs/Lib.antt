mod NameLemmas
mod ScopeLemmas
mod StartLemmas
mod PutLemmas
mod MethodLemmas
mod OperationLemmas
pub mod StatementLemmas
pub mod DivisorLemmas
pub mod Laws
