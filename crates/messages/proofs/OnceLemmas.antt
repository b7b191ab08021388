-- All messages that are read from one line have the same fields.
use Rattle.std.proofs.Common.{◌≡◌, ℕ, ◌<◌, List, [], ◌++◌, length, take, drop, Option, None, Some, refl, sym, ap, subst, ◌∙◌, arith}
use Rattle.std.specs.Prelude.{codes, option_copied, slice_index}
use Rattle.std.specs.Borrow.{Bor}
use Rattle.std.specs.Fmt.{decimal}
use Rattle.std.proofs.lemmas.List.{append-nil, append_cancel_left, drop_at, take_at}
use Rattle.messages.specs.declared.message.Position.{Position}
use Rattle.messages.specs.declared.message.Program.{Program}
use Rattle.messages.specs.declared.message.Program.TheVariants.{Papcalc, PapAuthor}
use Rattle.messages.specs.declared.message.Site.{Site}
use Rattle.messages.specs.Fields.{BeginsWithFile, HasFile, HasNoPlace, HasProgram, HasScriptLine, HasSite, HaveOneReading, IsSmallPosition, site_parts}
use Rattle.messages.specs.Lines.{behind_file, help_text, position_of, program_text, reason_words, script_text, site_text, unnamed_words, unnumbered_words}
use Rattle.messages.specs.Turns.{IsCutAtTurn, IsFirstTurn, IsTurn}
use Rattle.messages.specs.private.Cuts.{IsFirstCut}
use Rattle.messages.proofs.CutLemmas.{one_number}
use Rattle.messages.proofs.ReadingLemmas.{line_cut, place_cut, place_file, script_number, script_parts, whole_cut, whole_file}

-- ---- the name of a program

-- the fourth byte tells the names of the programs apart
no_both : (told words : List ℕ) → codes "papcalc: " ++ told ≡ codes "pap_author: " ++ words → ⊥
no_both told words is = let fourth : 99 ≡ 95 = ap (λ (l : List ℕ). slice_index l 3) is in omega (arith, fourth)

same_program : (line : List ℕ) (one other : Option Program) (told words : List ℕ) → line ≡ program_text one ++ told
    → line ≡ program_text other ++ words → HasProgram line one → HasProgram line other → (one ≡ other) × (told ≡ words)
same_program line None None told words is again has too = (refl, sym is ∙ again)
same_program line None (Some program) told words is again has too = absurd (has program too)
same_program line (Some program) None told words is again has too = absurd (too program has)
same_program line (Some Papcalc) (Some Papcalc) told words is again has too =
    (refl, append_cancel_left (codes "papcalc: ") told words (sym is ∙ again))
same_program line (Some PapAuthor) (Some PapAuthor) told words is again has too =
    (refl, append_cancel_left (codes "pap_author: ") told words (sym is ∙ again))
same_program line (Some Papcalc) (Some PapAuthor) told words is again has too = absurd (no_both told words (sym is ∙ again))
same_program line (Some PapAuthor) (Some Papcalc) told words is again has too = absurd (no_both words told (sym again ∙ is))

-- ---- the line of a script

same_script : (line : List ℕ) (one other : Option ℕ) (told words : List ℕ) → line ≡ script_text one ++ told
    → line ≡ script_text other ++ words → HasScriptLine line one → HasScriptLine line other → (one ≡ other) × (told ≡ words)
same_script line None None told words is again has too = (refl, sym is ∙ again)
same_script line None (Some number) told words is again has too = absurd (has number too)
same_script line (Some number) None told words is again has too = absurd (too number has)
same_script line (Some number) (Some second) told words is again has too =
    let numbered : List ℕ = decimal number ++ (codes ": " ++ told) in
    let front = is ∙ script_parts number told in
    let same = one_number (codes " ") numbered number second told words
    (script_number line numbered number front (record { small = has.small; begins = (told, is) }))
    (script_number line numbered second front (record { small = too.small; begins = (words, again) })) in
    (ap Some same.0, same.1)

-- ---- the place in a file

same_position : (one other : Position) (reason words : List ℕ) → IsSmallPosition one → IsSmallPosition other
    → position_of one ++ reason ≡ position_of other ++ words → (one ≡ other) × (reason ≡ words)
same_position one other reason words small little is =
    let text : List ℕ = position_of one ++ reason in
    let line = one_number [] text one.line other.line (decimal one.column ++ (codes ": " ++ reason))
    (decimal other.column ++ (codes ": " ++ words)) (line_cut text one reason (record { small = small; parts = refl }))
    (line_cut text other words (record { small = little; parts = is })) in
    let behind : List ℕ = decimal one.column ++ (codes ": " ++ reason) in
    let column = one_number (codes " ") behind one.column other.column reason words
    (record { small = small.column; parts = refl }) (record { small = little.column; parts = line.1 }) in
    ((λ k. record { line = line.0 k; column = column.0 k }), column.1)

same_file : (files : List (List ℕ)) (told file name : List ℕ) (one other : Option Position) (reason words : List ℕ)
    → told ≡ (file ++ behind_file one) ++ reason → told ≡ (name ++ behind_file other) ++ words
    → HasFile files told file one → HasFile files told name other → (file ≡ name) × (one ≡ other) × (reason ≡ words)
same_file files told file name None None reason words is again has too =
    let cut : IsFirstCut (codes ": ") told file reason = whole_cut files told file reason is has.1 in
    let same = whole_file files told file reason name cut (record too.1 { begins = (words, again) }) in
    (same.0, refl, same.1)
same_file files told file name None (Some at) reason words is again has too = absurd (has.0 name at too)
same_file files told file name (Some at) None reason words is again has too = absurd (too.0 file at has)
same_file files told file name (Some at) (Some other) reason words is again has too =
    let cut = place_cut told file at reason is has in
    let same = place_file told file (position_of at ++ reason) name other cut (record too { begins = (words, again) }) in
    let place = same_position at other reason words has.small too.small same.1 in
    (same.0, ap Some place.0, place.1)

no_file : (files : List (List ℕ)) (told file : List ℕ) (at : Option Position) → HasFile files told file at → HasNoPlace told
    → ((name : List ℕ) → ¬ (BeginsWithFile files told name)) → ⊥
no_file files told file None has none nowhere = nowhere file has.1
no_file files told file (Some at) has none nowhere = none file at has

same_site : (files : List (List ℕ)) (told : List ℕ) (one other : Option Site) (reason words : List ℕ)
    → told ≡ site_text one ++ reason → told ≡ site_text other ++ words → HasSite files told one → HasSite files told other
    → (site_parts one ≡ site_parts other) × (reason ≡ words)
same_site files told None None reason words is again has too = (refl, sym is ∙ again)
same_site files told None (Some site) reason words is again has too =
    absurd (no_file files told site.file.now site.at too has.0 has.1)
same_site files told (Some site) None reason words is again has too =
    absurd (no_file files told site.file.now site.at has too.0 too.1)
same_site files told (Some site) (Some other) reason words is again has too =
    let same = same_file files told site.file.now other.file.now site.at other.at reason words is again has too in
    ((λ k. Some (same.0 k, same.1 k)), same.2)

-- ---- what helps

same_length : (reason : List ℕ) (at other : ℕ) → IsFirstTurn reason at → IsFirstTurn reason other → at ≡ other
same_length reason at other first again =
    let not_below : other < at → ⊥ = λ below. first.first other below again.turn in
    let not_above : at < other → ⊥ = λ below. again.first at below first.turn in
    omega (arith, not_below, not_above)

same_help : (wrong words : List ℕ) (one other : Option (Bor (List ℕ))) → wrong ++ help_text one ≡ words ++ help_text other
    → IsCutAtTurn wrong one → IsCutAtTurn words other → (wrong ≡ words) × (option_copied one ≡ option_copied other)
same_help wrong words None None is turn again = (sym (append-nil wrong) ∙ is ∙ append-nil words, refl)
same_help wrong words None (Some help) is turn again =
    absurd (turn (length words) (subst (λ l. IsTurn l (length words)) (sym is ∙ append-nil wrong) again.turn))
same_help wrong words (Some help) None is turn again =
    absurd (again (length wrong) (subst (λ l. IsTurn l (length wrong)) (is ∙ append-nil words) turn.turn))
same_help wrong words (Some help) (Some second) is turn again =
    let same = same_length (words ++ (codes "; " ++ second.now)) (length wrong) (length words)
    (subst (λ l. IsFirstTurn l (length wrong)) is turn) again in (
      sym (take_at wrong (codes "; " ++ help.now) (length wrong) refl) ∙ ap (take (length wrong)) is
          ∙ take_at words (codes "; " ++ second.now) (length wrong) (sym same),
      ap Some (append_cancel_left (codes "; ") help.now second.now
          (sym (drop_at wrong (codes "; " ++ help.now) (length wrong) refl) ∙ ap (drop (length wrong)) is
          ∙ drop_at words (codes "; " ++ second.now) (length wrong) (sym same))),
    )

-- ---- all of a line

pub one_reading : HaveOneReading
one_reading files line one other read again =
    let program = same_program line one.program other.program (unnamed_words one) (unnamed_words other)
    read.words again.words read.program again.program in
    let script = same_script (unnamed_words one) one.script_line other.script_line (unnumbered_words one) (unnumbered_words other)
    refl program.1 read.script_line (subst (λ l. HasScriptLine l other.script_line) (sym program.1) again.script_line) in
    let site = same_site files (unnumbered_words one) one.site other.site (reason_words one) (reason_words other) refl script.1
    read.site (subst (λ l. HasSite files l other.site) (sym script.1) again.site) in
    let help = same_help one.wrong.now other.wrong.now one.help other.help site.1 read.help again.help in
    record { wrong = help.0; help = help.1; program = program.0; site = site.0; script_line = script.0 }
