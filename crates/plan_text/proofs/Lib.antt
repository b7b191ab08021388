mod DeclarationLemmas
mod ExpressionLemmas
pub mod Laws
mod MeaningLemmas
mod PlanLaws
mod ReadLemmas
mod SiteLemmas
mod StatementLemmas
