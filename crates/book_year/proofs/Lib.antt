mod BeforeLemmas
mod ChainLemmas
mod DayLemmas
mod FrontLemmas
mod JobLemmas
pub mod Laws
mod PickLemmas
mod OldLemmas
mod QuietLemmas
mod RecordLemmas
mod RowLemmas
mod YearLemmas
