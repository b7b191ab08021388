use Rattle.std.proofs.Common.{◌∙◌, sym, ap, rules}
use Rattle.outside.specs.Values.{SourceInMemory}
use Rattle.outside.proofs.Bytes.{given_front, given_nothing}
use Rattle.outside.proofs.memory.MemSourceSource.take.Goals as goal

pub returns-clause-bytes : goal.returns-clause-bytes
returns-clause-bytes c =
    let bytes = c.self.inside.bytes.items in
    let given = c.copy_front-count.result in
    let copied = rw c.deref-2.ensures.value at c.copy_front-count.ensures.copied in
    let count = rw c.deref-2.ensures.value at c.copy_front-count.ensures.count in
    let was = ap (λ (v : SourceInMemory). v.left) (sym c.self.view_is) in (
      was ∙ given_front bytes c.copy_front-count.new.buf c.self.inside.at given copied,
      λ none room. given_nothing bytes c.copy_front-count.new.buf c.self.inside.at _ given _ (search rules) c.requires count none,
    )
