pub mod ChangeLemmas
