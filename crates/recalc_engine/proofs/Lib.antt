mod AnswerLemmas
mod BookLemmas
mod JobLemmas
mod KeyedJobLemmas
pub mod Laws
mod ListedLemmas
mod EditMapLemmas
mod MapLemmas
mod MonthLemmas
mod OutputLemmas
mod RowLemmas
mod SafeLemmas
mod SameLemmas
mod ValueLemmas
