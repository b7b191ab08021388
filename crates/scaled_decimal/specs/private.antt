pub mod Limits
pub mod TextParts
pub mod RoundingDecision
