mod BookLemmas
mod TableLemmas
