-- The names of a tag's attributes, one after the other.
use Rattle.std.proofs.Common.{◌≡◌, ℕ, ◌+◌, ◌<◌, Bool, true, false, not, ◌&&◌, ◌||◌, cond, inl, inr, List, [], ◌∷◌, ◌++◌, length, map, take, drop, get_or, refl, sym, ap, ◌∙◌}
use Rattle.std.specs.List.{list_any}
use Rattle.std.specs.Ordering.{nat_cmp, eq_by_cmp}
use Rattle.std.specs.Cmp.Lexicographic.{slice_cmp, texts_ties}
use Rattle.std.proofs.lemmas.Cmp.{nat_list_eq_equiv}
use Rattle.std.proofs.lemmas.Bool.{cases_Bool}
use Rattle.std.proofs.lemmas.List.{take_more, take-append-drop}
use Rattle.std.proofs.lemmas.List.Folds.{list_any-append}
use Rattle.pap_reader.specs.declared.tags.Attribute.{Attribute as WrittenAttribute}
use Rattle.std.specs.Str.{bytes_eq}
use Rattle.pap_reader.specs.Attributes.{are_different, are_distinct}
use Rattle.pap_reader.specs.Tags.{attributes_of}
use Rattle.pap_reader.proofs.Closings.{map_one}

abbrev pub names : List WrittenAttribute → List (List ℕ)
names xs = map (λ a. a.name.now) xs

pushed : (a b d e : Bool) → (not (a || (b || false)) && (d && not e)) ≡ ((not a && d) && not (b || e))
pushed true b d e = refl
pushed false true true e = refl
pushed false true false e = refl
pushed false false true e = refl
pushed false false false e = refl

pub different-push : (ns : List (List ℕ)) (n : List ℕ) → are_different (ns ++ (n ∷ [])) ≡ (are_different ns && not (list_any (bytes_eq n) ns))
different-push [] n = refl
different-push (m ∷ ns) n =
    ap (λ x. not x && are_different (ns ++ (n ∷ []))) (list_any-append (bytes_eq m) ns (n ∷ []))
    ∙ ap (λ x. not (list_any (bytes_eq m) ns || (bytes_eq m n || false)) && x) (different-push ns n)
    ∙ pushed (list_any (bytes_eq m) ns) (bytes_eq m n) (are_different ns) (list_any (bytes_eq n) ns)
    ∙ ap (λ x. (not (list_any (bytes_eq m) ns) && are_different ns) && not (x || list_any (bytes_eq n) ns)) (nat_list_eq_equiv.symm m n)

and_false : (b : Bool) → (b && false) ≡ false
and_false true = refl
and_false false = refl

-- where two of the first texts are the same, two of all are
different-front : (ns ms : List (List ℕ)) → are_different ns ≡ false → are_different (ns ++ ms) ≡ false
different-front [] ms e = absurd cc
different-front (n ∷ ns) ms e = elim (cases_Bool (list_any (bytes_eq n) ns)) [
  | inl t ↦ ap (λ x. not x && are_different (ns ++ ms)) (list_any-append (bytes_eq n) ns ms ∙ ap (λ x. x || list_any (bytes_eq n) ms) t)
  | inr t ↦
      ap (λ x. not (list_any (bytes_eq n) (ns ++ ms)) && x) (different-front ns ms (sym (ap (λ x. not x && are_different ns) t) ∙ e))
      ∙ and_false (not (list_any (bytes_eq n) (ns ++ ms)))
]

names-append : (xs ys : List WrittenAttribute) → names (xs ++ ys) ≡ names xs ++ names ys
names-append [] ys = refl
names-append (x ∷ xs) ys = ap (λ ns. x.name.now ∷ ns) (names-append xs ys)

names_more : (xs : List WrittenAttribute) (i : ℕ) (a : WrittenAttribute) → i < length xs → a ≡ get_or xs i a
    → names (take (i + 1) xs) ≡ names (take i xs) ++ (a.name.now ∷ [])
names_more xs i a lt e =
    ap names (take_more xs i a lt) ∙ map_one (λ (b : WrittenAttribute). b.name.now) (take i xs) (get_or xs i a)
    ∙ ap (λ (b : WrittenAttribute). names (take i xs) ++ (b.name.now ∷ [])) (sym e)

names_of : (xs : List WrittenAttribute) → map (λ a. a.name) (attributes_of xs) ≡ names xs
names_of [] = refl
names_of (x ∷ xs) = ap (λ ns. x.name.now ∷ ns) (names_of xs)

pub distinct_names : (xs : List WrittenAttribute) → are_distinct (attributes_of xs) ≡ are_different (names xs)
distinct_names xs = ap are_different (names_of xs)

-- the loop's step: the name is new
pub still_different : (xs : List WrittenAttribute) (i : ℕ) (a : WrittenAttribute) → i < length xs → a ≡ get_or xs i a
    → are_different (names (take i xs)) ≡ true → list_any (bytes_eq a.name.now) (names (take i xs)) ≡ false
    → are_different (names (take (i + 1) xs)) ≡ true
still_different xs i a lt e d n =
    ap are_different (names_more xs i a lt e) ∙ different-push (names (take i xs)) a.name.now
    ∙ ap (λ x. x && not (list_any (bytes_eq a.name.now) (names (take i xs)))) d ∙ ap not n

-- the name is among those before it
pub not_different : (xs : List WrittenAttribute) (i : ℕ) (a : WrittenAttribute) → i < length xs → a ≡ get_or xs i a
    → list_any (bytes_eq a.name.now) (names (take i xs)) ≡ true → are_different (names xs) ≡ false
not_different xs i a lt e n =
    ap (λ x. are_different (names x)) (sym (take-append-drop (i + 1) xs))
    ∙ ap are_different (names-append (take (i + 1) xs) (drop (i + 1) xs))
    ∙ different-front (names (take (i + 1) xs)) (names (drop (i + 1) xs))
    (ap are_different (names_more xs i a lt e) ∙ different-push (names (take i xs)) a.name.now
    ∙ ap (λ x. are_different (names (take i xs)) && not x) n ∙ and_false (are_different (names (take i xs))))

any_more : (b x : Bool) → cond b true x ≡ (x || (b || false))
any_more true true = refl
any_more true false = refl
any_more false true = refl
any_more false false = refl

-- what stands among the names with one more
pub seen_more : (xs : List WrittenAttribute) (i : ℕ) (a : WrittenAttribute) (q : List ℕ) (before after : Bool) → i < length xs → a ≡ get_or xs i a
    → before ≡ list_any (bytes_eq q) (names (take i xs)) → after ≡ cond (eq_by_cmp (slice_cmp nat_cmp) a.name.now q) true before
    → after ≡ list_any (bytes_eq q) (names (take (i + 1) xs))
seen_more xs i a q before after lt e h k =
    k ∙ ap (λ b. cond b true before) (sym (texts_ties a.name.now q)) ∙ any_more (bytes_eq a.name.now q) before
    ∙ ap (λ x. x || (bytes_eq a.name.now q || false)) h
    ∙ ap (λ x. list_any (bytes_eq q) (names (take i xs)) || (x || false)) (nat_list_eq_equiv.symm a.name.now q)
    ∙ sym (list_any-append (bytes_eq q) (names (take i xs)) (a.name.now ∷ []))
    ∙ ap (list_any (bytes_eq q)) (sym (names_more xs i a lt e))

pub was_there : (f b : Bool) → f ≡ false → f ≡ not b → b ≡ true
was_there f true e h = refl
was_there f false e h = absurd cc

pub was_new : (f b : Bool) → f ≡ true → f ≡ not b → b ≡ false
was_new f false e h = refl
was_new f true e h = absurd cc
