-- What other crates may cite: a text says one thing, and no other; two saved books of one text are equal.
pub use Rattle.saved_items.proofs.DecidedItemLemmas.{text_some}
pub use Rattle.saved_items.proofs.TextLemmas.{saved_once, text_once}
