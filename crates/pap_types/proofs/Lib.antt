pub mod ScopeLemmas
pub mod CheckLemmas
pub mod DeclarationLemmas
pub mod TypingLemmas
mod WellTypedLemmas
pub mod StatementLemmas
pub mod BodyLemmas
pub mod MethodLemmas
pub mod NamingLemmas
pub mod NameFaultLemmas
pub mod StatementFaultLemmas
mod FaultLaws
pub mod BoundLemmas
pub mod RunLemmas
mod OutputLemmas
pub mod LiteralLemmas
pub mod DivisorLemmas
pub mod Laws
