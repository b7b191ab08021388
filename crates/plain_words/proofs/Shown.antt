-- What is shown of texts that stand one behind another, and of what helps.
use Rattle.std.proofs.Common.{◌≡◌, ◌≢◌, ℕ, List, [], ◌++◌, refl, sym, ap, ◌∙◌, subst, append_assoc}
use Rattle.std.specs.Prelude.{Option, None, Some, IfSome, Result, Ok, Err, IfOk, OnOk, map, codes, encode_utf8_all}
use Rattle.std.specs.declared.alloc.AllocError.{AllocError}
use Rattle.std.specs.Char.{encode_utf8}
use Rattle.std.specs.Str.{IsUtf8, chars}
use Rattle.std.proofs.lemmas.List.{append-nil, map-append}
use Rattle.std.proofs.lemmas.Str.{IsUtf8-append, chars-append, encodes-append}
use Rattle.pap_reader.specs.declared.fault.ReadFault.{ReadFault}
use Rattle.pap_reader.specs.declared.fault.ReadFault.TheVariants as reads
use Rattle.pap_reader.specs.declared.fault.Which.{Which}
use Rattle.pap_reader.specs.declared.fault.Which.TheVariants as counted
use Rattle.plain_words.specs.Helps.{excess_help}
use Rattle.pap_expr.specs.declared.fault.ExprFault.{ExprFault}
use Rattle.pap_expr.specs.declared.fault.ExprFault.TheVariants as expressions
use Rattle.pap_types.specs.declared.fault.TypeFault.{TypeFault}
use Rattle.pap_types.specs.declared.fault.TypeFault.TheVariants as types
use Rattle.call_order.specs.declared.fault.OrderFault.{OrderFault}
use Rattle.call_order.specs.declared.fault.OrderFault.TheVariants as orders
use Rattle.limits_file.specs.declared.fault.LimitsFault.{LimitsFault}
use Rattle.limits_file.specs.declared.fault.LimitsFault.TheVariants as limits
use Rattle.interval_num.specs.declared.cause.RangeCause.{RangeCause}
use Rattle.interval_num.specs.declared.cause.RangeCause.TheVariants as causes
use Rattle.interval_analysis.specs.declared.fault.RangeFault.{RangeFault}
use Rattle.interval_analysis.specs.declared.fault.RangeFault.TheVariants as ranges
use Rattle.pap_plan.specs.declared.refusal.PlanRefusal.{PlanRefusal}
use Rattle.pap_plan.specs.declared.refusal.PlanRefusal.TheVariants as refusals
use Rattle.plain_words.specs.declared.found.Found.{Found}
use Rattle.scaled_decimal.specs.Decimals.{Decimal}
use Rattle.limits_file.specs.declared.limits.InputLimit.{InputLimit}
use Rattle.plain_words.specs.declared.state.RunReason.{RunReason}
use Rattle.plain_words.specs.declared.state.RunReason.TheVariants as reasons
use Rattle.plain_words.specs.Lines.{shown_char, shown_text, StartsWith, EndsWith}
use Rattle.plain_words.specs.Places.{PlanFiles, words_at, IsReason}
use Rattle.plain_words.specs.Helps.{read_help, expression_help, type_help, order_help, limits_help, cause_help}
use Rattle.plain_words.specs.Helps.{range_help, help_of}
use Rattle.plain_words.specs.RefusalTexts.{plan_refusal_text}
use Rattle.plain_words.specs.Refusals.{IsPlaceOf, SaysWrong, BeginsAtRefusal}
use Rattle.plain_words.specs.States.{outside_text, input_value_text, state_text, state_help, IsPlaceOfState, SaysState}
use Rattle.plain_words.specs.private.DetailViews.{AppendsDetail}
use Rattle.plain_words.specs.private.FoundViews.{place_of, help_text, HelpsAs}

shown-append : (a b : List ℕ) → IsUtf8 a → shown_text (a ++ b) ≡ shown_text a ++ shown_text b
shown-append a b whole =
    ap (λ cs. encode_utf8_all (map shown_char cs)) (chars-append a b whole)
    ∙ ap encode_utf8_all (map-append shown_char (chars a) (chars b))
    ∙ encodes-append (map shown_char (chars a)) (map shown_char (chars b))

utf8_colon : IsUtf8 (codes ": ")
unfolding encode_utf8
utf8_colon = (codes ": ", (refl, refl))

-- the last of some texts ends what is shown of them
pub shown_end : (place wrong end text : List ℕ) → IsUtf8 place → IsUtf8 wrong
    → text ≡ place ++ (codes ": " ++ (wrong ++ end)) → EndsWith (shown_text end) (shown_text text)
shown_end place wrong end text p w is =
    let front = place ++ (codes ": " ++ wrong) in
    let behind : IsUtf8 (codes ": " ++ wrong) = IsUtf8-append (codes ": ") wrong utf8_colon w in
    let whole : IsUtf8 front = IsUtf8-append place (codes ": " ++ wrong) p behind in
    let parts : text ≡ front ++ end =
    is ∙ ap (λ x. place ++ x) (sym (append_assoc (codes ": ") wrong end))
    ∙ sym (append_assoc place (codes ": " ++ wrong) end) in
    (shown_text front, ap shown_text parts ∙ shown-append front end whole)

-- ---- what helps is shown as it is

abbrev IsShown : List ℕ → Type 0
IsShown help = shown_text (codes "; " ++ help) ≡ codes "; " ++ help

excess_shown : (which : Which) → IsShown (excess_help which)
unfolding chars encode_utf8
excess_shown counted.Bytes = refl
excess_shown counted.Statements = refl
excess_shown counted.Depth = refl
excess_shown _ = refl

read_shown : (f : ReadFault) → IfSome (read_help f) IsShown
unfolding chars encode_utf8
read_shown (reads.Many which) = excess_shown which
read_shown _ = tt

expression_shown : (f : ExprFault) → IfSome (expression_help f) IsShown
unfolding chars encode_utf8
expression_shown (expressions.BinaryFraction at) = refl
expression_shown (expressions.Number at) = refl
expression_shown (expressions.Deep at) = refl
expression_shown _ = tt

type_shown : (f : TypeFault) → IfSome (type_help f) IsShown
unfolding chars encode_utf8
type_shown (types.Twice name) = refl
type_shown (types.Unknown name place) = refl
type_shown (types.ConstantWritten place) = refl
type_shown (types.NoMethod place) = refl
type_shown _ = tt

order_shown : (f : OrderFault) → IfSome (order_help f) IsShown
unfolding chars encode_utf8
order_shown (orders.Cycle method) = refl
order_shown (orders.Chain method) = refl
order_shown (orders.TooLong count) = refl
order_shown (orders.Memory e) = tt

limits_shown : (f : LimitsFault) → IfSome (limits_help f) IsShown
unfolding chars encode_utf8
limits_shown limits.Toml = refl
limits_shown limits.LimitsLong = refl
limits_shown _ = tt

cause_shown : (cause : RangeCause) → IsShown (cause_help cause)
unfolding chars encode_utf8
cause_shown causes.Wide = refl
cause_shown causes.Scale = refl
cause_shown causes.Divisor = refl
cause_shown causes.Index = refl

range_shown : (f : RangeFault) → IfSome (range_help f) IsShown
unfolding chars encode_utf8
range_shown (ranges.At place cause) = cause_shown cause
range_shown (ranges.Output name) = refl
range_shown (ranges.Memory e) = tt

help_shown : (r : PlanRefusal) → IfSome (help_of r) IsShown
help_shown (refusals.Read fault) = read_shown fault
help_shown (refusals.Expr spot fault) = expression_shown fault
help_shown (refusals.Types fault) = type_shown fault
help_shown (refusals.Order fault) = order_shown fault
help_shown (refusals.Limits fault) = limits_shown fault
help_shown (refusals.Range fault) = range_shown fault
help_shown _ = tt

-- ---- the words of a refusal

-- words that end with what is shown of what helps end with it, where the refusal decides it
ends_with_help : (r : PlanRefusal) (found : Found) (words : List ℕ) → HelpsAs (help_of r) found
    → EndsWith (shown_text (codes "; " ++ help_text found)) words
    → IfSome (help_of r) (λ help. EndsWith (codes "; " ++ help) words)
ends_with_help r found words helps ends = by (help_of r) helps (help_shown r)
  where
    by : (help : Option (List ℕ)) → HelpsAs help found → IfSome help IsShown
        → IfSome help (λ h. EndsWith (codes "; " ++ h) words)
    by None is shown = tt
    by (Some h) is shown =
        (ends.0, ends.1 ∙ ap (λ x. ends.0 ++ shown_text (codes "; " ++ x)) is ∙ ap (λ x. ends.0 ++ x) shown)

-- words start with themselves, and with nothing
pub starts_whole : (text words : List ℕ) → words ≡ text → StartsWith text words
starts_whole text words is = ([], is ∙ sym (append-nil text))

pub starts_none : (text words : List ℕ) → text ≡ [] → StartsWith text words
starts_none text words none = (words, ap (λ t. t ++ words) (sym none))

starts_sooner : (text detail wrong : List ℕ) → StartsWith (text ++ detail) wrong → StartsWith text wrong
starts_sooner text detail wrong s = (detail ++ s.0, s.1 ∙ append_assoc text detail s.0)

says_appended : (plan : List ℕ) (r : PlanRefusal) (detail wrong : List ℕ) → AppendsDetail plan r [] detail
    → StartsWith (plan_refusal_text r ++ detail) wrong → SaysWrong plan r wrong
says_appended plan (refusals.LimitName name) detail wrong by s = record {
  input = λ d. subst (λ text. StartsWith text wrong) (by.input d) s;
  none = λ lacks. subst (λ text. StartsWith text wrong) (by.none lacks) s;
}
says_appended plan (refusals.Bind name) detail wrong by s = record {
  input = λ d. subst (λ text. StartsWith text wrong) (by.input d) s;
  none = λ lacks. subst (λ text. StartsWith text wrong) (by.none lacks) s;
}
says_appended plan (refusals.Read fault) detail wrong by s = starts_sooner (plan_refusal_text (refusals.Read fault)) detail wrong s
says_appended plan (refusals.Expr spot fault) detail wrong by s = starts_sooner (plan_refusal_text (refusals.Expr spot fault)) detail wrong s
says_appended plan (refusals.Types fault) detail wrong by s = starts_sooner (plan_refusal_text (refusals.Types fault)) detail wrong s
says_appended plan (refusals.Order fault) detail wrong by s = starts_sooner (plan_refusal_text (refusals.Order fault)) detail wrong s
says_appended plan (refusals.Limits fault) detail wrong by s = starts_sooner (plan_refusal_text (refusals.Limits fault)) detail wrong s
says_appended plan (refusals.LimitKind name) detail wrong by s = starts_sooner (plan_refusal_text (refusals.LimitKind name)) detail wrong s
says_appended plan (refusals.Range fault) detail wrong by s = starts_sooner (plan_refusal_text (refusals.Range fault)) detail wrong s
says_appended plan refusals.Memory detail wrong by s = starts_sooner (plan_refusal_text refusals.Memory) detail wrong s

-- what starts with the refusal's own text, and behind it with what is appended, says what is wrong
pub says_wrong : (plan : List ℕ) (r : PlanRefusal) (old detail wrong : List ℕ) → old ≡ [] → AppendsDetail plan r old detail
    → StartsWith (plan_refusal_text r ++ detail) wrong → SaysWrong plan r wrong
says_wrong plan r old detail wrong none by s = says_appended plan r detail wrong (subst (λ o. AppendsDetail plan r o detail) none by) s

pub begins_at_refusal : (files : PlanFiles) (r : PlanRefusal) (found : Found) (wrong words : List ℕ)
    → IsPlaceOf files.plan.bytes r (place_of found) → HelpsAs (help_of r) found → wrong ≢ []
    → SaysWrong files.plan.bytes r wrong → words ≡ words_at files (place_of found) (wrong ++ (codes "; " ++ help_text found))
    → EndsWith (shown_text (codes "; " ++ help_text found)) words → BeginsAtRefusal files r words
begins_at_refusal files r found wrong words is helps some says told ends =
    let reason : IsReason (wrong ++ (codes "; " ++ help_text found)) =
    record { wrong = wrong; help = help_text found; some = some; is = refl } in record {
      place = place_of found;
      is = is;
      begins = (_, (record { reason = reason; says = says }, told));
      helps = ends_with_help r found words helps ends;
    }

-- ---- the words of a run without inputs

pub says_state : (files : PlanFiles) (s : RunReason) (f g : Found) (wrong words : List ℕ)
    → IsPlaceOfState s (place_of f) → place_of g ≡ place_of f → help_text g ≡ state_help s → wrong ≡ state_text s
    → words ≡ words_at files (place_of g) (wrong ++ (codes "; " ++ help_text g)) → SaysState files s words
says_state files s f g wrong words is same helps told says = record {
  place = place_of f;
  is = is;
  says = says ∙ ap (λ p. words_at files p (wrong ++ (codes "; " ++ help_text g))) same
      ∙ ap (λ w. words_at files (place_of f) (w ++ (codes "; " ++ help_text g))) told
      ∙ ap (λ h. words_at files (place_of f) (state_text s ++ (codes "; " ++ h))) helps;
}

-- a value out of its range, and what it breaks
pub value_told : {A : Type 0} (done : Result A AllocError) (before between after : List ℕ) (reason : RunReason) (name : List ℕ) (value : Decimal) (limit : InputLimit)
    → reason ≡ reasons.Outside name value limit → between ≡ before ++ input_value_text name value
    → OnOk done (after ≡ between ++ outside_text value limit) → OnOk done (after ≡ before ++ state_text reason)
value_told (Ok a) before between after reason name value limit is first second =
    second ∙ ap (λ t. t ++ outside_text value limit) first ∙ append_assoc before (input_value_text name value) (outside_text value limit)
    ∙ ap (λ r. before ++ state_text r) (sym is)
value_told (Err e) before between after reason name value limit is first second = tt

pub if_ok_both : {A E : Type 0} (r : Result A E) (P Q R : A → Type 0) → ((a : A) → P a → Q a → R a)
    → IfOk r P → IfOk r Q → IfOk r R
if_ok_both (Ok a) P Q R by p q = by a p q
if_ok_both (Err e) P Q R by p q = tt
