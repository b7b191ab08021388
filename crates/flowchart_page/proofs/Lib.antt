pub mod VerdictLemmas
pub mod PageLemmas
pub mod HeaderLemmas
pub mod TableLemmas
pub mod RangeLemmas
pub mod SiteLemmas
