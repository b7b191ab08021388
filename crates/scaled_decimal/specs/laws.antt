-- No definitions: the proofs of the roundings' laws, which the implementations of `Rounding` have to name from specs/, and
-- the lemmas below them. No contract's meaning rests on this folder.
pub mod IntegerLemmas
pub mod RoundingLemmas
pub mod MonotoneLemmas
pub mod ScaledLemmas
pub mod RoundingLaws
