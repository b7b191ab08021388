mod AnswerLemmas
mod DifferenceLemmas
mod FileLemmas
mod BalanceLemmas
mod KeptLemmas
mod ListedLemmas
mod OwedLemmas
mod AccountLemmas
mod ReportedLemmas
mod RisingLemmas
mod SomeLemmas
mod PartLemmas
pub mod Laws
