-- Pages of fragments, with one fragment more.
use Rattle.std.proofs.Common.{◌≡◌, ℕ, ◌+◌, ◌/◌, ◌%◌, ◌<◌, ◌^◌, Bool, true, false, if◌then◌else◌, List, [], ◌∷◌, ◌++◌, IsTrue, All, map, refl, sym, ap, subst, ◌∙◌, append_assoc, arith}
use Rattle.std.specs.Prelude.{◌&&◌, not, nat_lt, nat_le, slice_index, length}
use Rattle.std.specs.Fmt.{decimal}
use Rattle.std.specs.List.{flat_map, list_all}
use Rattle.std.proofs.lemmas.List.{append-nil}
use Rattle.std.proofs.lemmas.List.Sums.{list_all-from_AllPass}
use Rattle.std.proofs.lemmas.List.Folds.{list_all-map}
use Rattle.std.proofs.lemmas.Fmt.{decimal_by_steps}
use Rattle.pap_tree.specs.Names.{is_word, is_letter, is_reserved, longest_name, is_name}
use Rattle.flowchart_markup.specs.Escapes.{escaped, is_inert}
use Rattle.flowchart_markup.specs.Templates.{is_own}
use Rattle.flowchart_markup.specs.declared.fill.Fill.{Fill}
use Rattle.flowchart_markup.specs.Fragments.{Fragment, fragment_text, is_allowed, fill_text, template_text, IsMarkedUp}
use Rattle.flowchart_markup.proofs.EscapeLemmas.{text_inert}

and_then : (a b c : Bool) → IsTrue (a && b) → (IsTrue b → IsTrue c) → IsTrue (a && c)
and_then true b c h f = f h
and_then false b c h f = h

pub all-append : {A : Type 0} (p : A → Bool) (xs ys : List A) → IsTrue (list_all p xs) → IsTrue (list_all p ys)
    → IsTrue (list_all p (xs ++ ys))
all-append p [] ys first second = second
all-append p (x ∷ xs) ys first second =
    and_then (p x) (list_all p xs) (list_all p (xs ++ ys)) first (λ h. all-append p xs ys h second)

pub all_one : {A : Type 0} (p : A → Bool) (x : A) → IsTrue (p x) → IsTrue (list_all p (x ∷ []))
all_one p x is = ap (λ b. b && true) is

-- ---- pages

-- nothing
pub none_marked : (bytes : List ℕ) → bytes ≡ [] → IsMarkedUp bytes
none_marked bytes is = record { fragments = []; allowed = refl; is = is }

-- one fragment
pub one_marked : (template : List ℕ) (fills : List (List ℕ)) (bytes : List ℕ) → IsTrue (is_own template)
    → IsTrue (list_all (list_all is_inert) fills) → bytes ≡ template_text template fills → IsMarkedUp bytes
one_marked template fills bytes own inert is =
    let fragment : Fragment = record { template = template; fills = fills } in
    record {
      fragments = fragment ∷ [];
      allowed = all_one is_allowed fragment (ap (λ b. b && list_all (list_all is_inert) fills) own ∙ inert);
      is = is ∙ sym (append-nil (fragment_text fragment));
    }

flat-append : (f : Fragment → List ℕ) (xs ys : List Fragment) → flat_map f (xs ++ ys) ≡ flat_map f xs ++ flat_map f ys
flat-append f [] ys = refl
flat-append f (x ∷ xs) ys =
    ap (λ l. f x ++ l) (flat-append f xs ys) ∙ sym (append_assoc (f x) (flat_map f xs) (flat_map f ys))

-- two parts
pub both_marked : (a b : List ℕ) → IsMarkedUp a → IsMarkedUp b → IsMarkedUp (a ++ b)
both_marked a b first second = record {
  fragments = first.fragments ++ second.fragments;
  allowed = all-append is_allowed first.fragments second.fragments first.allowed second.allowed;
  is = ap (λ x. x ++ b) first.is
      ∙ ap (λ y. flat_map fragment_text first.fragments ++ y) second.is
      ∙ sym (flat-append fragment_text first.fragments second.fragments);
}

-- a page that is gone on with, or stays as it is
pub more_marked : (done : Bool) (old more new : List ℕ) → new ≡ (if done then old ++ more else old) → IsMarkedUp old
    → IsMarkedUp more → IsMarkedUp new
more_marked true old more new is first second = subst IsMarkedUp (sym is) (both_marked old more first second)
more_marked false old more new is first second = subst IsMarkedUp (sym is) first

-- ---- what stands at percent signs has no mark of HTML

digit_inert : (n : ℕ) → n < 10 → IsTrue (list_all is_inert ((48 + n) ∷ []))
digit_inert n few = grind arith

last_digit : (n : ℕ) → n % 10 < 10
last_digit n = omega arith

pub number_inert : (n : ℕ) → n < 2 ^ 64 → IsTrue (list_all is_inert (decimal n))
number_inert n few =
    decimal_by_steps (λ n ds. IsTrue (list_all is_inert ds)) digit_inert
    (λ n ds up so_far. all-append is_inert ds ((48 + n % 10) ∷ []) so_far (digit_inert (n % 10) (last_digit n))) n few

pub text_is_inert : (text : List ℕ) → IsTrue (list_all is_inert (escaped text))
text_is_inert text = list_all-from_AllPass is_inert (escaped text) (text_inert text)

word_inert : (byte : ℕ) → IsTrue (is_word byte) → IsTrue (is_inert byte)
word_inert byte is = grind (arith, is)

and_both : (a b c d : Bool) → IsTrue (a && b) → (IsTrue a → IsTrue c) → (IsTrue b → IsTrue d) → IsTrue (c && d)
and_both true b c d h f g = ap (λ x. x && d) (f refl) ∙ g h
and_both false b c d h f g = absurd cc

words_inert : (bytes : List ℕ) → IsTrue (list_all is_word bytes) → IsTrue (list_all is_inert bytes)
words_inert [] is = refl
words_inert (byte ∷ bytes) is =
    and_both (is_word byte) (list_all is_word bytes) (is_inert byte) (list_all is_inert bytes) is (word_inert byte)
    (words_inert bytes)

-- the second of two tests within the second of three
part_of : (a b c d : Bool) → IsTrue ((a && (b && c)) && d) → IsTrue c
part_of true true true d h = refl
part_of true true false d h = h
part_of true false c d h = absurd cc
part_of false b c d h = absurd cc

pub name_inert : (name : List ℕ) → IsTrue (is_name name) → IsTrue (list_all is_inert name)
name_inert name is =
    words_inert name
    (part_of (nat_lt 0 (length name) && nat_le (length name) longest_name) (is_letter (slice_index name 0))
    (list_all is_word name) (not (is_reserved name)) is)

-- all that stands at them
pub fills_inert : (fills : List Fill) → All (λ fill. IsTrue (list_all is_inert (fill_text fill))) fills
    → IsTrue (list_all (list_all is_inert) (map fill_text fills))
fills_inert fills each =
    list_all-map (list_all is_inert) fill_text fills
    ∙ list_all-from_AllPass (λ fill. list_all is_inert (fill_text fill)) fills each
