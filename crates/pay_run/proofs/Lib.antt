mod AdmissionLemmas
mod KeptLemmas
pub mod Laws
mod RunLemmas
