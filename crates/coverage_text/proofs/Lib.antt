pub mod Laws
pub mod CountLemmas
mod ItemLemmas
