mod ChangeLemmas
mod FullLemmas
mod KeyLemmas
pub mod Laws
mod NamedLemmas
mod OrderLemmas
mod PairLemmas
mod RisingLemmas
mod SideLemmas
mod StateLemmas
mod TrialLemmas
mod ValueLemmas
mod YearLemmas
