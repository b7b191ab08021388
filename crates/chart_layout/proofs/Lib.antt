pub mod DrawnLemmas
pub mod AddingLemmas
pub mod CountLemmas
pub mod TreeLemmas
pub mod LeadLemmas
