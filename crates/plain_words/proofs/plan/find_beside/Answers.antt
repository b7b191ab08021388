use Rattle.std.proofs.Common.{◌≡◌, true, false, IfOk, subst}
use Rattle.std.proofs.lemmas.Result.{IfOk-weaker}
use Rattle.pap_reader.specs.declared.elements.Elements.{Elements}
use Rattle.plain_words.specs.RefusalTexts.{limit_name_text, binding_text}
use Rattle.plain_words.specs.private.FoundViews.{place_of, IsOfPlan, IsOfRanges}
use Rattle.plain_words.specs.private.SiteViews.{declares_input}
use Rattle.plain_words.proofs.Besides.{in_range_file, unread_beside, undeclared, appended, limit_beside}
use Rattle.plain_words.proofs.plan.find_beside.Goals as goal

pub returns-in_default-clause-place : goal.returns-in_default-clause-place
returns-in_default-clause-place c =
    let none = rw c.in_default.is at c.in_ok-outline.ensures.unread in
    IfOk-weaker c.find_undeclared.result _ _
    (λ found of. unread_beside _ c.args.refusal.now (place_of found) none (in_range_file found of))
    c.find_undeclared.ensures.place

pub returns-in_default-clause-detail : goal.returns-in_default-clause-detail
returns-in_default-clause-detail c =
    let none = rw c.in_default.is at c.in_ok-outline.ensures.unread in
    IfOk-weaker c.find_undeclared.result _ _ (λ _ is. undeclared _ c.args.refusal.now _ _ none is)
    c.find_undeclared.ensures.detail

pub returns-in-LimitName-clause-place : goal.returns-in-LimitName-clause-place
returns-in-LimitName-clause-place c =
    let name = c.in-LimitName.name in
    let result = c.find_limit_name.result in
    let read = rw c.in-Some.is at c.in_ok-outline.ensures.read in
    let some = subst (λ (x : Elements). declares_input x name ≡ true → IfOk result (λ f. IsOfPlan f)) c.source-source.ensures c.find_limit_name.ensures.input in
    let none = subst (λ (x : Elements). declares_input x name ≡ false → IfOk result (λ f. IsOfRanges f)) c.source-source.ensures c.find_limit_name.ensures.none in
    rw c.in-LimitName.is (limit_beside c.args.plan.bytes.now name c.in-Some.outline.elements result read some none)

pub returns-in-LimitName-clause-detail : goal.returns-in-LimitName-clause-detail
returns-in-LimitName-clause-detail c =
    let name = c.in-LimitName.name in
    let read = rw c.in-Some.is at c.in_ok-outline.ensures.read in
    rw c.in-LimitName.is (IfOk-weaker c.find_limit_name.result _ _
    (λ _ is. appended c.args.plan.bytes.now name c.in-Some.outline.elements _ (limit_name_text name) _ _ c.source-source.ensures read is)
    c.find_limit_name.ensures.told)

pub returns-in-Bind-clause-detail : goal.returns-in-Bind-clause-detail
returns-in-Bind-clause-detail c =
    let name = c.in-Bind.name in
    let read = rw c.in-Some.is at c.in_ok-outline.ensures.read in
    rw c.in-Bind.is (IfOk-weaker c.find_binding.result _ _
    (λ _ is. appended c.args.plan.bytes.now name c.in-Some.outline.elements _ (binding_text name) _ _ c.source-source.ensures read is)
    c.find_binding.ensures.told)
