mod AcceptLemmas
mod AcceptedLaws
mod AnswerLaws
mod BindingLemmas
mod BoundLemmas
mod CountLemmas
mod HeldLemmas
mod JudgementLemmas
pub mod Laws
mod LimitFaultLemmas
mod LimitLemmas
mod LiteralLemmas
mod MeaningLemmas
mod RunLemmas
mod SlotLemmas
mod SuitedLemmas
mod TextLemmas
