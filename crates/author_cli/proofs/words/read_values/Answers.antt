use Rattle.std.proofs.Common.{◌+◌, sym, ap, ◌∙◌, subst, take, drop, string_bytes}
use Rattle.std.specs.Prelude.{Err}
use Rattle.payroll_records.specs.declared.values.NamedValue.{NamedValue}
use Rattle.payroll_records.specs.ValueWords.{IsValueWord, AreValueWords}
use Rattle.payroll_records.proofs.Laws.{inserted, no_value, twice, too_many}
use Rattle.author_cli.specs.Words.{texts}
use Rattle.author_cli.proofs.WordLemmas.{texts_one_more, texts_cut}
use Rattle.author_cli.proofs.words.read_values.Goals as goal

pub returns-in_default : goal.returns-in_default
returns-in_default c = λ values h.
    let i = c.loop-word.word-index in
    let words = c.args.words.now in
    let parts = texts_cut words i c.word-item.result c.word-item.is c.loop-word-test.true in
    let none = subst (λ b. (v : NamedValue) → ¬ (IsValueWord b v)) c.as_bytes.ensures.value c.in_default.ensures.none in
    no_value (texts (take i words)) (texts (drop (i + 1) words)) (string_bytes c.word-item.result) none values (subst (λ w. AreValueWords w values) parts h)

pub returns-in-Err-Twice : goal.returns-in-Err-Twice
returns-in-Err-Twice c = λ values h.
    let i = c.loop-word.word-index in
    let words = c.args.words.now in
    let parts = texts_cut words i c.word-item.result c.word-item.is c.loop-word-test.true in
    let is = subst (λ b. IsValueWord b c.in-Some.value) c.as_bytes.ensures.value c.in-Some.ensures.read in
    let there = c.insert.ensures.twice.0 (c.in-Err-Twice.is ∙ ap (λ f. Err f) c.in-Err-Twice.field-0-is) in
    twice (texts (take i words)) (texts (drop (i + 1) words)) (string_bytes c.word-item.result) c.loop-word.values c.in-Some.value c.loop-word.invariant is there values (subst (λ w. AreValueWords w values) parts h)

pub returns-in-Err-Full : goal.returns-in-Err-Full
returns-in-Err-Full c = λ values h.
    let i = c.loop-word.word-index in
    let words = c.args.words.now in
    let parts = texts_cut words i c.word-item.result c.word-item.is c.loop-word-test.true in
    let full = c.insert.ensures.full.0 (c.in-Err-Full.is ∙ ap (λ f. Err f) c.in-Err-Full.field-0-is) in
    too_many (texts (take i words)) (texts (drop (i + 1) words)) (string_bytes c.word-item.result) c.loop-word.values c.loop-word.invariant full.1 values (subst (λ w. AreValueWords w values) parts h)

pub loop-word-preserved : goal.loop-word-preserved
loop-word-preserved c =
    let i = c.loop-word.word-index in
    let words = c.args.words.now in
    let is = subst (λ b. IsValueWord b c.in-Some.value) c.as_bytes.ensures.value c.in-Some.ensures.read in
    let next = inserted (texts (take i words)) c.loop-word.values c.insert.new.self (string_bytes c.word-item.result) c.in-Some.value c.loop-word.invariant is c.in-Ok.ensures.ok
    (λ some. cc (c.in-Ok.ensures.twice.1 some)) (λ full. cc (c.in-Ok.ensures.full.1 full)) in
    subst (λ w. AreValueWords w c.insert.new.self) (sym (texts_one_more words i c.word-item.result c.word-item.is c.loop-word-test.true)) next
