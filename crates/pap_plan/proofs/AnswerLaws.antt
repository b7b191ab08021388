-- Every two texts have one answer.
use Rattle.std.proofs.Common.{◌≡◌, ℕ, ◌⊎◌, inl, inr, List, Option, Some, None, Result, Ok, Err, refl, sym, ap, subst, ◌∙◌}
use Rattle.std.specs.List.{All}
use Rattle.pap_tree.specs.Flowchart.{Flowchart}
use Rattle.limits_file.specs.declared.limits.Limits.{Limits}
use Rattle.limits_file.specs.declared.fault.LimitsFault.{LimitsFault}
use Rattle.limits_file.specs.declared.fault.LimitsFault.TheVariants as ranges
use Rattle.limits_file.specs.Faults.{Fault, too_long, no_toml, bad_key, bad_bound}
use Rattle.limits_file.specs.RangeFiles.{FileSays}
use Rattle.limits_file.proofs.Laws.{file_once, file_some}
use Rattle.pap_types.specs.declared.fault.TypeFault.{TypeFault}
use Rattle.pap_types.specs.Checks.{IsWellTyped, type_fault}
use Rattle.call_order.specs.declared.fault.OrderFault.{OrderFault}
use Rattle.call_order.specs.OrderLaws.{HasOrder, HasFault}
use Rattle.call_order.specs.Faults.{HasOrderFault}
use Rattle.call_order.proofs.Laws as orders
use Rattle.interval_walk.specs.Ranges.{Ranges}
use Rattle.interval_walk.specs.Failures.{WalkFault, node_fails, output_fails}
use Rattle.interval_walk.specs.Analysis.{analysed}
use Rattle.interval_analysis.specs.declared.fault.RangeFault.{RangeFault}
use Rattle.interval_analysis.specs.declared.fault.RangeFault.TheVariants as walks
use Rattle.interval_analysis.specs.Answers.{IsWalkFault}
use Rattle.plan_text.specs.declared.fault.PlanFault.{PlanFault}
use Rattle.plan_text.specs.declared.fault.PlanFault.TheVariants as texts
use Rattle.plan_text.specs.Plans.{IsPlan, IsPlanFault}
use Rattle.plan_text.proofs.Laws as plans
use Rattle.pap_plan.specs.declared.refusal.PlanRefusal.{PlanRefusal}
use Rattle.pap_plan.specs.declared.refusal.PlanRefusal.TheVariants as refusals
use Rattle.pap_plan.specs.Bindings.{unmatched_name, HasSuitedLimit, IsFirstUnsuited, unbound_input}
use Rattle.pap_plan.specs.Acceptance.{Meaning, IsTypedPlan, IsOrderedPlan, HasRangeFile, HasMatchingNames, HasSuitedLimits, HasBindings, IsLimitsFault, AcceptanceSays}
use Rattle.pap_plan.specs.StageRefusals.{text_refusal}
use Rattle.pap_plan.proofs.SuitedLemmas.{suited_or_first, never_suited, one_unsuited}

abbrev Out : Type 0
Out = Result Meaning PlanRefusal

abbrev meaning_of : Flowchart → Limits → Ranges → Meaning
meaning_of f l rs = record { flowchart = f; limits = l; outputs = rs }

-- ---- the stages from the last to the first: passed, and what follows; or refused, and that is the answer

abbrev ByWalk : Flowchart → Limits → Out → Type 0
ByWalk f l a =
    ((rs : Ranges) × (analysed f l ≡ Ok rs) × (a ≡ Ok (meaning_of f l rs)))
    ⊎ ((r : RangeFault) × IsWalkFault f l r × (a ≡ Err (refusals.Range r)))

abbrev ByBindings : Flowchart → Limits → Out → Type 0
ByBindings f l a =
    ((unbound_input f l ≡ None) × ByWalk f l a)
    ⊎ ((name : List ℕ) × (unbound_input f l ≡ Some name) × (a ≡ Err (refusals.Bind name)))

abbrev ByKinds : Flowchart → Limits → Out → Type 0
ByKinds f l a =
    (All (HasSuitedLimit l) f.inputs × ByBindings f l a)
    ⊎ ((name : List ℕ) × IsFirstUnsuited f l name × (a ≡ Err (refusals.LimitKind name)))

abbrev ByNames : Flowchart → Limits → Out → Type 0
ByNames f l a =
    ((unmatched_name f l ≡ None) × ByKinds f l a)
    ⊎ ((name : List ℕ) × (unmatched_name f l ≡ Some name) × (a ≡ Err (refusals.LimitName name)))

abbrev ByFile : List ℕ → Flowchart → Out → Type 0
ByFile limits f a =
    ((l : Limits) × FileSays limits (Ok l) × ByNames f l a)
    ⊎ ((e : LimitsFault) × IsLimitsFault limits e × (a ≡ Err (refusals.Limits e)))

abbrev ByOrder : List ℕ → Flowchart → Out → Type 0
ByOrder limits f a =
    (HasOrder f × ByFile limits f a)
    ⊎ ((o : OrderFault) × HasOrderFault f o × (a ≡ Err (refusals.Order o)))

abbrev ByTypes : List ℕ → Flowchart → Out → Type 0
ByTypes limits f a =
    (IsWellTyped f × ByOrder limits f a)
    ⊎ ((t : TypeFault) × (type_fault f ≡ Some t) × (a ≡ Err (refusals.Types t)))

abbrev ByText : List ℕ → List ℕ → Out → Type 0
ByText plan limits a =
    ((f : Flowchart) × IsPlan plan f × ByTypes limits f a)
    ⊎ ((u : PlanFault) × IsPlanFault plan u × (a ≡ Err (text_refusal u)))

-- ---- each answer goes through the stages

to_stages : (plan limits : List ℕ) (a : Out) → AcceptanceSays plan limits a → ByText plan limits a
to_stages plan limits (Ok m) h =
    let s = h.bound.suited in
    let n = s.named in
    let o = n.file.ordered in
    inl (m.flowchart, o.typed.text, inl (o.typed.typed, inl (o.ordered, inl (m.limits, n.file.file, inl (n.matching, inl (s.suited, inl (h.bound.bound, inl (m.outputs, h.walked, refl))))))))
to_stages plan limits (Err (refusals.Read r)) h = inr (texts.Read r, h, refl)
to_stages plan limits (Err (refusals.Expr spot e)) h = inr (texts.Expr spot e, h, refl)
to_stages plan limits (Err (refusals.Types t)) (f, read, e) = inl (f, read, inr (t, e, refl))
to_stages plan limits (Err (refusals.Order o)) (f, typed, e) = inl (f, typed.text, inl (typed.typed, inr (o, e, refl)))
to_stages plan limits (Err (refusals.Limits e)) (f, o, h) = inl (f, o.typed.text, inl (o.typed.typed, inl (o.ordered, inr (e, h, refl))))
to_stages plan limits (Err (refusals.LimitName name)) (f, (l, n, e)) =
    let o = n.ordered in
    inl (f, o.typed.text, inl (o.typed.typed, inl (o.ordered, inl (l, n.file, inr (name, e, refl)))))
to_stages plan limits (Err (refusals.LimitKind name)) (f, (l, n, e)) =
    let o = n.file.ordered in
    inl (f, o.typed.text, inl (o.typed.typed, inl (o.ordered, inl (l, n.file.file, inl (n.matching, inr (name, e, refl))))))
to_stages plan limits (Err (refusals.Bind name)) (f, (l, s, e)) =
    let n = s.named in
    let o = n.file.ordered in
    inl (f, o.typed.text, inl (o.typed.typed, inl (o.ordered, inl (l, n.file.file, inl (n.matching, inl (s.suited, inr (name, e, refl)))))))
to_stages plan limits (Err (refusals.Range r)) (f, (l, b, e)) =
    let s = b.suited in
    let n = s.named in
    let o = n.file.ordered in
    inl (f, o.typed.text, inl (o.typed.typed, inl (o.ordered, inl (l, n.file.file, inl (n.matching, inl (s.suited, inl (b.bound, inr (r, e, refl))))))))
to_stages plan limits (Err refusals.Memory) h = absurd h

-- ---- at most one answer goes through them

some_same : {A : Type 0} (x y : A) → Some x ≡ Some y → x ≡ y
some_same x y e = cc

some_or_none : {A : Type 0} (x : A) → Some x ≡ None → ⊥
some_or_none x e = cc

abbrev FileAnswer : Type 0
FileAnswer = Result Limits Fault

abbrev ok_file : Limits → FileAnswer
ok_file l = Ok l

abbrev err_file : Fault → FileAnswer
err_file f = Err f

abbrev WalkAnswer : Type 0
WalkAnswer = Result Ranges WalkFault

abbrev ok_walk : Ranges → WalkAnswer
ok_walk r = Ok r

abbrev err_walk : WalkFault → WalkAnswer
err_walk w = Err w

limits_same : (x y : Limits) → ok_file x ≡ ok_file y → x ≡ y
limits_same x y e = cc

ok_or_fault : (l : Limits) (f : Fault) → Ok l ≡ Err f → ⊥
ok_or_fault l f e = cc

err_same : (f g : Fault) → err_file f ≡ err_file g → f ≡ g
err_same f g e = cc

-- a fault of the range file, by the file's own words
abbrev fault_of : LimitsFault → Fault
fault_of ranges.Toml = no_toml
fault_of (ranges.Key label) = bad_key label
fault_of (ranges.Bound label) = bad_bound label
fault_of ranges.LimitsLong = too_long
fault_of (ranges.Memory e) = no_toml

abbrev limits_fault : Fault → LimitsFault
limits_fault no_toml = ranges.Toml
limits_fault (bad_key label) = ranges.Key label
limits_fault (bad_bound label) = ranges.Bound label
limits_fault too_long = ranges.LimitsLong

file_fault : (limits : List ℕ) (e : LimitsFault) → IsLimitsFault limits e → FileSays limits (Err (fault_of e)) × (limits_fault (fault_of e) ≡ e)
file_fault limits ranges.Toml h = (h, refl)
file_fault limits (ranges.Key label) h = (h, refl)
file_fault limits (ranges.Bound label) h = (h, refl)
file_fault limits ranges.LimitsLong h = (h, refl)
file_fault limits (ranges.Memory e) h = absurd h

is_fault : (limits : List ℕ) (f : Fault) → FileSays limits (Err f) → IsLimitsFault limits (limits_fault f)
is_fault limits no_toml h = h
is_fault limits (bad_key label) h = h
is_fault limits (bad_bound label) h = h
is_fault limits too_long h = h

never_file : (limits : List ℕ) (l : Limits) (e : LimitsFault) → FileSays limits (Ok l) → IsLimitsFault limits e → ⊥
never_file limits l e h k = ok_or_fault l (fault_of e) (file_once limits (Ok l) (Err (fault_of e)) h (file_fault limits e k).0)

one_file : (limits : List ℕ) (l m : Limits) → FileSays limits (Ok l) → FileSays limits (Ok m) → l ≡ m
one_file limits l m h k = limits_same l m (file_once limits (Ok l) (Ok m) h k)

one_limits_fault : (limits : List ℕ) (e d : LimitsFault) → IsLimitsFault limits e → IsLimitsFault limits d → e ≡ d
one_limits_fault limits e d h k =
    let a = file_fault limits e h in
    let b = file_fault limits d k in
    sym a.1 ∙ ap limits_fault (err_same (fault_of e) (fault_of d) (file_once limits (Err (fault_of e)) (Err (fault_of d)) a.0 b.0)) ∙ b.1

-- a refusal of the walk, by the walk's own words
abbrev range_of : WalkFault → RangeFault
range_of (node_fails place cause operands) = walks.At place cause
range_of (output_fails name range) = walks.Output name

walk_fault : (f : Flowchart) (l : Limits) (r : RangeFault) → IsWalkFault f l r → (w : WalkFault) × (analysed f l ≡ Err w) × (range_of w ≡ r)
walk_fault f l (walks.At place cause) h = (node_fails place cause h.0, h.1, refl)
walk_fault f l (walks.Output name) h = (output_fails name h.0, h.1, refl)
walk_fault f l (walks.Memory e) h = absurd h

is_walk_fault : (f : Flowchart) (l : Limits) (w : WalkFault) → analysed f l ≡ Err w → IsWalkFault f l (range_of w)
is_walk_fault f l (node_fails place cause operands) h = (operands, h)
is_walk_fault f l (output_fails name range) h = (range, h)

ranges_same : (x y : Ranges) → ok_walk x ≡ ok_walk y → x ≡ y
ranges_same x y e = cc

walks_same : (x y : WalkFault) → err_walk x ≡ err_walk y → x ≡ y
walks_same x y e = cc

ok_or_walk : (x : Ranges) (w : WalkFault) → Ok x ≡ Err w → ⊥
ok_or_walk x w e = cc

one_by_walk : (f : Flowchart) (l : Limits) (a b : Out) → ByWalk f l a → ByWalk f l b → a ≡ b
one_by_walk f l a b (inl (x, h, e)) (inl (y, k, d)) = e ∙ ap (λ r. Ok (meaning_of f l r)) (ranges_same x y (sym h ∙ k)) ∙ sym d
one_by_walk f l a b (inl (x, h, e)) (inr (s, k, d)) = let v = walk_fault f l s k in absurd (ok_or_walk x v.0 (sym h ∙ v.1))
one_by_walk f l a b (inr (r, h, e)) (inl (y, k, d)) = let u = walk_fault f l r h in absurd (ok_or_walk y u.0 (sym k ∙ u.1))
one_by_walk f l a b (inr (r, h, e)) (inr (s, k, d)) =
    let u = walk_fault f l r h in
    let v = walk_fault f l s k in
    e ∙ ap (λ x. Err (refusals.Range x)) (sym u.2 ∙ ap range_of (walks_same u.0 v.0 (sym u.1 ∙ v.1)) ∙ v.2) ∙ sym d

one_by_bindings : (f : Flowchart) (l : Limits) (a b : Out) → ByBindings f l a → ByBindings f l b → a ≡ b
one_by_bindings f l a b (inl (h, x)) (inl (k, y)) = one_by_walk f l a b x y
one_by_bindings f l a b (inl (h, x)) (inr (n, k, d)) = absurd (some_or_none n (sym k ∙ h))
one_by_bindings f l a b (inr (m, h, e)) (inl (k, y)) = absurd (some_or_none m (sym h ∙ k))
one_by_bindings f l a b (inr (m, h, e)) (inr (n, k, d)) = e ∙ ap (λ x. Err (refusals.Bind x)) (some_same m n (sym h ∙ k)) ∙ sym d

one_by_kinds : (f : Flowchart) (l : Limits) (a b : Out) → ByKinds f l a → ByKinds f l b → a ≡ b
one_by_kinds f l a b (inl (h, x)) (inl (k, y)) = one_by_bindings f l a b x y
one_by_kinds f l a b (inl (h, x)) (inr (n, k, d)) = absurd (never_suited f l n h k)
one_by_kinds f l a b (inr (m, h, e)) (inl (k, y)) = absurd (never_suited f l m k h)
one_by_kinds f l a b (inr (m, h, e)) (inr (n, k, d)) = e ∙ ap (λ x. Err (refusals.LimitKind x)) (one_unsuited f l m n h k) ∙ sym d

one_by_names : (f : Flowchart) (l : Limits) (a b : Out) → ByNames f l a → ByNames f l b → a ≡ b
one_by_names f l a b (inl (h, x)) (inl (k, y)) = one_by_kinds f l a b x y
one_by_names f l a b (inl (h, x)) (inr (n, k, d)) = absurd (some_or_none n (sym k ∙ h))
one_by_names f l a b (inr (m, h, e)) (inl (k, y)) = absurd (some_or_none m (sym h ∙ k))
one_by_names f l a b (inr (m, h, e)) (inr (n, k, d)) = e ∙ ap (λ x. Err (refusals.LimitName x)) (some_same m n (sym h ∙ k)) ∙ sym d

one_by_file : (limits : List ℕ) (f : Flowchart) (a b : Out) → ByFile limits f a → ByFile limits f b → a ≡ b
one_by_file limits f a b (inl (l, h, x)) (inl (m, k, y)) = one_by_names f m a b (subst (λ z. ByNames f z a) (one_file limits l m h k) x) y
one_by_file limits f a b (inl (l, h, x)) (inr (n, k, d)) = absurd (never_file limits l n h k)
one_by_file limits f a b (inr (m, h, e)) (inl (l, k, y)) = absurd (never_file limits l m k h)
one_by_file limits f a b (inr (m, h, e)) (inr (n, k, d)) = e ∙ ap (λ x. Err (refusals.Limits x)) (one_limits_fault limits m n h k) ∙ sym d

one_by_order : (limits : List ℕ) (f : Flowchart) (a b : Out) → ByOrder limits f a → ByOrder limits f b → a ≡ b
one_by_order limits f a b (inl (h, x)) (inl (k, y)) = one_by_file limits f a b x y
one_by_order limits f a b (inl (h, x)) (inr (n, k, d)) = absurd (orders.never_both f h (n, k))
one_by_order limits f a b (inr (m, h, e)) (inl (k, y)) = absurd (orders.never_both f k (m, h))
one_by_order limits f a b (inr (m, h, e)) (inr (n, k, d)) = e ∙ ap (λ x. Err (refusals.Order x)) (orders.one_fault f m n h k) ∙ sym d

one_by_types : (limits : List ℕ) (f : Flowchart) (a b : Out) → ByTypes limits f a → ByTypes limits f b → a ≡ b
one_by_types limits f a b (inl (h, x)) (inl (k, y)) = one_by_order limits f a b x y
one_by_types limits f a b (inl (h, x)) (inr (n, k, d)) = absurd (some_or_none n (sym k ∙ h))
one_by_types limits f a b (inr (m, h, e)) (inl (k, y)) = absurd (some_or_none m (sym h ∙ k))
one_by_types limits f a b (inr (m, h, e)) (inr (n, k, d)) = e ∙ ap (λ x. Err (refusals.Types x)) (some_same m n (sym h ∙ k)) ∙ sym d

one_by_text : (plan limits : List ℕ) (a b : Out) → ByText plan limits a → ByText plan limits b → a ≡ b
one_by_text plan limits a b (inl (f, h, x)) (inl (g, k, y)) = one_by_types limits g a b (subst (λ z. ByTypes limits z a) (plans.one_plan plan f g h k) x) y
one_by_text plan limits a b (inl (f, h, x)) (inr (n, k, d)) = absurd (plans.never_both plan f n h k)
one_by_text plan limits a b (inr (m, h, e)) (inl (g, k, y)) = absurd (plans.never_both plan g m k h)
one_by_text plan limits a b (inr (m, h, e)) (inr (n, k, d)) = e ∙ ap (λ x. Err (text_refusal x)) (plans.one_fault plan m n h k) ∙ sym d

pub one : (plan limits : List ℕ) (a b : Out) → AcceptanceSays plan limits a → AcceptanceSays plan limits b → a ≡ b
one plan limits a b h k = one_by_text plan limits a b (to_stages plan limits a h) (to_stages plan limits b k)

-- ---- and one does

abbrev HasAnswer : List ℕ → List ℕ → Type 0
HasAnswer plan limits = (a : Out) × AcceptanceSays plan limits a

by_walk : (plan limits : List ℕ) (f : Flowchart) (l : Limits) → HasBindings plan limits f l → (r : Result Ranges WalkFault) → analysed f l ≡ r → HasAnswer plan limits
by_walk plan limits f l h (Ok rs) e = (Ok (meaning_of f l rs), record { bound = h; walked = e })
by_walk plan limits f l h (Err w) e = (Err (refusals.Range (range_of w)), (f, (l, h, is_walk_fault f l w e)))

by_bindings : (plan limits : List ℕ) (f : Flowchart) (l : Limits) → HasSuitedLimits plan limits f l → (o : Option (List ℕ)) → unbound_input f l ≡ o → HasAnswer plan limits
by_bindings plan limits f l h None e = by_walk plan limits f l (record { suited = h; bound = e }) (analysed f l) refl
by_bindings plan limits f l h (Some name) e = (Err (refusals.Bind name), (f, (l, h, e)))

by_kinds : (plan limits : List ℕ) (f : Flowchart) (l : Limits) → HasMatchingNames plan limits f l → All (HasSuitedLimit l) f.inputs ⊎ ((name : List ℕ) × IsFirstUnsuited f l name) → HasAnswer plan limits
by_kinds plan limits f l h (inl k) = by_bindings plan limits f l (record { named = h; suited = k }) (unbound_input f l) refl
by_kinds plan limits f l h (inr (name, k)) = (Err (refusals.LimitKind name), (f, (l, h, k)))

by_names : (plan limits : List ℕ) (f : Flowchart) (l : Limits) → HasRangeFile plan limits f l → (o : Option (List ℕ)) → unmatched_name f l ≡ o → HasAnswer plan limits
by_names plan limits f l h None e = by_kinds plan limits f l (record { file = h; matching = e }) (suited_or_first f l)
by_names plan limits f l h (Some name) e = (Err (refusals.LimitName name), (f, (l, h, e)))

by_file : (plan limits : List ℕ) (f : Flowchart) → IsOrderedPlan plan f → (r : Result Limits Fault) → FileSays limits r → HasAnswer plan limits
by_file plan limits f h (Ok l) k = by_names plan limits f l (record { ordered = h; file = k }) (unmatched_name f l) refl
by_file plan limits f h (Err e) k = (Err (refusals.Limits (limits_fault e)), (f, h, is_fault limits e k))

by_order : (plan limits : List ℕ) (f : Flowchart) → IsTypedPlan plan f → HasOrder f ⊎ HasFault f → HasAnswer plan limits
by_order plan limits f h (inl k) = let r = file_some limits in by_file plan limits f (record { typed = h; ordered = k }) r.0 r.1
by_order plan limits f h (inr k) = (Err (refusals.Order k.0), (f, h, k.1))

by_types : (plan limits : List ℕ) (f : Flowchart) → IsPlan plan f → (o : Option TypeFault) → type_fault f ≡ o → HasAnswer plan limits
by_types plan limits f h None e = by_order plan limits f (record { text = h; typed = e }) (orders.some f)
by_types plan limits f h (Some t) e = (Err (refusals.Types t), (f, h, e))

by_text : (plan limits : List ℕ) → ((f : Flowchart) × IsPlan plan f) ⊎ ((u : PlanFault) × IsPlanFault plan u) → HasAnswer plan limits
by_text plan limits (inl (f, h)) = by_types plan limits f h (type_fault f) refl
by_text plan limits (inr (texts.Read r, h)) = (Err (refusals.Read r), h)
by_text plan limits (inr (texts.Expr spot e, h)) = (Err (refusals.Expr spot e), h)
by_text plan limits (inr (texts.Memory, h)) = absurd h

pub some : (plan limits : List ℕ) → HasAnswer plan limits
some plan limits = by_text plan limits (plans.always_one plan)
