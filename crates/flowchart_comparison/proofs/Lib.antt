pub mod LineLemmas
pub mod EntryLemmas
pub mod FrontLemmas
pub mod NameLemmas
pub mod PairingLemmas
pub mod PartnerLemmas
