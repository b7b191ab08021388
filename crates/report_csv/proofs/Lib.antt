mod FrontLemmas
mod JoinLemmas
mod NumberLemmas
mod PartLemmas
mod PlainLemmas
mod RowLemmas
