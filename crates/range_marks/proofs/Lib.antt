mod MarkLemmas
mod NumberLemmas
mod JoinLemmas
