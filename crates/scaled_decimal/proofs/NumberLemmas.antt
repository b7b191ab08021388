-- The texts of numbers: one spelling each, and where a text stops being one.
use Rattle.std.proofs.Common.{◌≡◌, ℕ, zero, suc, ◌<◌, ◌-◌, Bool, true, false, List, [], ◌∷◌, ◌++◌, length, take, refl, sym, ap, ◌∙◌, subst, append_assoc, length-append, inl, inr, arith}
use Rattle.std.specs.Char.{digit_value}
use Rattle.std.specs.Str.Parse.{AllDigits}
use Rattle.std.proofs.lemmas.List.{append-nil}
use Rattle.std.proofs.Math.Seq.{take-append_seam}
use Rattle.std.proofs.lemmas.Bool.{cases_lt}
use Rattle.scaled_decimal.specs.Decimals.{Decimal}
use Rattle.scaled_decimal.specs.NumberTexts.{sign_text, point_text, IsNumber, spelled, Spells, SpellsNone, IsBeginning, IsLongestFront}
use Rattle.scaled_decimal.specs.private.TextParts.{NoDigitFirst, NotFirst, IsSignSplit, IsDigitSplit}

-- one digit more
AllDigits_push : (ds : List ℕ) (b : ℕ) → AllDigits 10 ds → digit_value b < 10 → AllDigits 10 (ds ++ (b ∷ []))
AllDigits_push [] b h d = (d, tt)
AllDigits_push (x ∷ xs) b h d = (h.0, AllDigits_push xs b h.1 d)

-- the byte after some digits is a digit, where all are
digit_after : (ds : List ℕ) (b : ℕ) (rest : List ℕ) → AllDigits 10 (ds ++ (b ∷ rest)) → digit_value b < 10
digit_after [] b rest h = h.0
digit_after (d ∷ ds) b rest h = digit_after ds b rest h.1

point_first : (places : List ℕ) → NoDigitFirst (point_text places)
point_first [] = tt
point_first (b ∷ bs) = omega arith

-- a text falls into digits and the rest in one way
digits_once : (ds ds' r r' : List ℕ) → AllDigits 10 ds → AllDigits 10 ds' → NoDigitFirst r → NoDigitFirst r' → ds ++ r ≡ ds' ++ r' → (ds ≡ ds') × (r ≡ r')
digits_once [] [] r r' h h' n n' e = (refl, e)
digits_once [] (d ∷ ds') [] r' h h' n n' e = absurd (cc e)
digits_once [] (d ∷ ds') (b ∷ bs) r' h h' n n' e = absurd (let same : b ≡ d = cc in let low : digit_value d < 10 = h'.0 in let low' = subst (λ x. digit_value x < 10) (sym same) low in omega arith)
digits_once (d ∷ ds) [] r [] h h' n n' e = absurd (cc e)
digits_once (d ∷ ds) [] r (b ∷ bs) h h' n n' e = absurd (let same : d ≡ b = cc in let low : digit_value d < 10 = h.0 in let low' = subst (λ x. digit_value x < 10) same low in omega arith)
digits_once (d ∷ ds) (d' ∷ ds') r r' h h' n n' e =
    let head : d ≡ d' = cc in
    let tail : ds ++ r ≡ ds' ++ r' = cc in
    let rest = digits_once ds ds' r r' h.1 h'.1 n n' tail in
    (cc (head, rest.0), rest.1)

-- no digit is a -
no_minus : (whole rest more : List ℕ) → 0 < length whole → AllDigits 10 whole → whole ++ rest ≡ 45 ∷ more → ⊥
no_minus [] rest more some h e = absurd (omega arith)
no_minus (d ∷ ds) rest more some h e = let same : d ≡ 45 = cc in let low : digit_value d < 10 = h.0 in let low' : digit_value 45 < 10 = subst (λ x. digit_value x < 10) same low in omega arith

-- how a text was split: a sign, digits, and the rest
pub record Found (text : List ℕ) (negative : Bool) (whole after : List ℕ) : Type 0 where
  pub parts : text ≡ sign_text negative ++ (whole ++ after)
  pub minus : negative ≡ false → NotFirst 45 (whole ++ after)
  pub digits : AllDigits 10 whole
  pub stops : NoDigitFirst after

-- a number's text falls into the same parts
pub same_parts : (text : List ℕ) (neg neg' : Bool) (whole after whole' places' : List ℕ) → Found text neg whole after → IsNumber text neg' whole' places' → (neg ≡ neg') × (whole ≡ whole') × (after ≡ point_text places')
same_parts text true true whole after whole' places' f n =
    let tails : whole ++ after ≡ whole' ++ point_text places' = cc (f.parts, n.parts) in
    let once = digits_once whole whole' after (point_text places') f.digits n.whole_digits f.stops (point_first places') tails in
    (refl, once.0, once.1)
same_parts text false false whole after whole' places' f n =
    let tails : whole ++ after ≡ whole' ++ point_text places' = cc (f.parts, n.parts) in
    let once = digits_once whole whole' after (point_text places') f.digits n.whole_digits f.stops (point_first places') tails in
    (refl, once.0, once.1)
same_parts text true false whole after whole' places' f n = absurd (no_minus whole' (point_text places') (whole ++ after) n.some n.whole_digits (sym n.parts ∙ f.parts))
same_parts text false true whole after whole' places' f n = absurd (f.minus refl (whole' ++ point_text places') (sym f.parts ∙ n.parts))

-- a number's text is split so
pub found_number : (text : List ℕ) (neg : Bool) (whole places : List ℕ) → IsNumber text neg whole places → Found text neg whole (point_text places)
found_number text neg whole places n = record {
  parts = n.parts;
  minus = λ _ more e. no_minus whole (point_text places) more n.some n.whole_digits e;
  digits = n.whole_digits;
  stops = point_first places;
}

point_once : (p p' : List ℕ) → point_text p ≡ point_text p' → p ≡ p'
point_once [] [] e = refl
point_once [] (b ∷ bs) e = absurd (cc e)
point_once (b ∷ bs) [] e = absurd (cc e)
point_once (b ∷ bs) (b' ∷ bs') e = cc e

-- a text spells one decimal
pub spells_once : (text : List ℕ) (neg : Bool) (whole places : List ℕ) (d : Decimal) → IsNumber text neg whole places → Spells text d → d ≡ spelled neg whole places
spells_once text neg whole places d n s =
    let parts = same_parts text neg s.negative whole (point_text places) s.whole s.places (found_number text neg whole places n) s.form in
    let same : places ≡ s.places = point_once places s.places parts.2 in
    let whole_same = parts.1 in
    let neg_same = parts.0 in
    let value = s.value in
    cc

pub spells : (text : List ℕ) (neg : Bool) (whole places : List ℕ) → IsNumber text neg whole places → Spells text (spelled neg whole places)
spells text neg whole places n = record { negative = neg; whole = whole; places = places; form = n; value = refl }

-- a longer front goes on with the next byte
beyond : (f : List ℕ) (b : ℕ) (tail : List ℕ) (j : ℕ) → length f < j → (t : List ℕ) × (take j (f ++ (b ∷ tail)) ≡ f ++ (b ∷ t))
beyond f b tail zero h = absurd (omega arith)
beyond [] b tail (suc j) h = (take j tail, refl)
beyond (x ∷ xs) b tail (suc j) h = let more = beyond xs b tail j (omega arith) in (more.0, ap (λ l. x ∷ l) more.1)

-- a front that no number goes on from like the text
pub stuck : (front : List ℕ) (b : ℕ) (tail : List ℕ) → IsBeginning front → ((rest : List ℕ) → SpellsNone (front ++ (b ∷ rest))) → SpellsNone (front ++ (b ∷ tail)) × IsLongestFront (front ++ (b ∷ tail)) (length front)
stuck front b tail begins none = (
  none tail,
  record {
    within = simp length-append (omega arith);
    begins = subst IsBeginning (sym (take-append_seam front (b ∷ tail))) begins;
    longest = λ j _ longer. elim (cases_lt (length front) j) [
      | inl less ↦ absurd (
          let more = beyond front b tail j less in
          let spelt = subst (λ t. Spells (t ++ longer.rest) longer.number) more.1 longer.spells in
          none (more.0 ++ longer.rest) longer.number (subst (λ t. Spells t longer.number) (append_assoc front (b ∷ more.0) longer.rest) spelt))
      | inr le ↦ le
    ];
  },
)

-- a text that ends too early
pub short : (front : List ℕ) → IsBeginning front → SpellsNone front → SpellsNone front × IsLongestFront front (length front)
short front begins none = (
  none,
  record {
    within = omega arith;
    begins = subst IsBeginning (sym (take-all front)) begins;
    longest = λ j within _. within;
  },
) where
  take-all : (xs : List ℕ) → take (length xs) xs ≡ xs
  take-all [] = refl
  take-all (x ∷ xs) = ap (λ l. x ∷ l) (take-all xs)

-- the three ways in which a text stops

zero_digit : AllDigits 10 (48 ∷ [])
zero_digit = (omega arith, tt)

sign_begins : (neg : Bool) → IsBeginning (sign_text neg)
sign_begins neg = record {
  rest = 48 ∷ [];
  number = spelled neg (48 ∷ []) [];
  spells = spells (sign_text neg ++ (48 ∷ [])) neg (48 ∷ []) [] (record {
    parts = refl;
    some = omega arith;
    whole_digits = zero_digit;
    place_digits = tt;
  });
}

whole_begins : (neg : Bool) (whole : List ℕ) → 0 < length whole → AllDigits 10 whole → IsBeginning (sign_text neg ++ whole)
whole_begins neg whole some h = record {
  rest = [];
  number = spelled neg whole [];
  spells = spells ((sign_text neg ++ whole) ++ []) neg whole [] (record {
    parts = append_assoc (sign_text neg) whole [];
    some = some;
    whole_digits = h;
    place_digits = tt;
  });
}

point_begins : (neg : Bool) (whole places : List ℕ) → 0 < length whole → AllDigits 10 whole → AllDigits 10 places → IsBeginning (sign_text neg ++ (whole ++ (46 ∷ places)))
point_begins neg whole places some h h' = record {
  rest = 48 ∷ [];
  number = spelled neg whole (places ++ (48 ∷ []));
  spells = spells ((sign_text neg ++ (whole ++ (46 ∷ places))) ++ (48 ∷ [])) neg whole (places ++ (48 ∷ [])) (record {
    parts = append_assoc (sign_text neg) (whole ++ (46 ∷ places)) (48 ∷ []) ∙ ap (λ l. sign_text neg ++ l) (append_assoc whole (46 ∷ places) (48 ∷ []) ∙ ap (λ l. whole ++ l) (pointed places));
    some = some;
    whole_digits = h;
    place_digits = AllDigits_push places 48 h' (omega arith);
  });
} where
  pointed : (ps : List ℕ) → (46 ∷ ps) ++ (48 ∷ []) ≡ point_text (ps ++ (48 ∷ []))
  pointed [] = refl
  pointed (p ∷ ps) = refl

-- no digit after the sign
pub stops_at_sign : (text : List ℕ) (neg : Bool) (after : List ℕ) → Found text neg [] after → SpellsNone text × IsLongestFront text (length (sign_text neg))
stops_at_sign text neg [] f = subst (λ t. SpellsNone t × IsLongestFront t (length (sign_text neg))) (sym (f.parts ∙ append-nil (sign_text neg))) (short (sign_text neg) (sign_begins neg) none) where
  none : SpellsNone (sign_text neg)
  none d s =
      let n = s.form in
      let parts = same_parts (sign_text neg) neg s.negative [] [] s.whole s.places (record { parts = sym (append-nil (sign_text neg)); minus = λ _ more e. absurd (cc e); digits = tt; stops = tt }) n in
      let some = n.some in
      let empty = ap length parts.1 in
      absurd (omega arith)
stops_at_sign text neg (b ∷ tail) f = subst (λ t. SpellsNone t × IsLongestFront t (length (sign_text neg))) (sym f.parts) (stuck (sign_text neg) b tail (sign_begins neg) none) where
  none : (rest : List ℕ) → SpellsNone (sign_text neg ++ (b ∷ rest))
  none rest d s =
      let n = s.form in
      let parts = same_parts (sign_text neg ++ (b ∷ rest)) neg s.negative [] (b ∷ rest) s.whole s.places (record { parts = refl; minus = λ e more same. f.minus e tail (let head : b ≡ 45 = cc in ap (λ x. x ∷ tail) head); digits = tt; stops = f.stops }) n in
      let some = n.some in
      let empty = ap length parts.1 in
      absurd (omega arith)

-- another byte than a point after the digits
pub stops_at_point : (text : List ℕ) (neg : Bool) (whole : List ℕ) (b : ℕ) (tail : List ℕ) → Found text neg whole (b ∷ tail) → 0 < length whole → (b ≡ 46 → ⊥) → SpellsNone text × IsLongestFront text (length (sign_text neg ++ whole))
stops_at_point text neg whole b tail f some other =
    subst (λ t. SpellsNone t × IsLongestFront t (length (sign_text neg ++ whole))) (sym (f.parts ∙ sym (append_assoc (sign_text neg) whole (b ∷ tail)))) (stuck (sign_text neg ++ whole) b tail (whole_begins neg whole some f.digits) none) where
      no_point : (rest places : List ℕ) → b ∷ rest ≡ point_text places → ⊥
      no_point rest [] e = cc e
      no_point rest (p ∷ ps) e = other (cc e)

      none : (rest : List ℕ) → SpellsNone ((sign_text neg ++ whole) ++ (b ∷ rest))
      none rest d s =
          let n = s.form in
          let parts = same_parts ((sign_text neg ++ whole) ++ (b ∷ rest)) neg s.negative whole (b ∷ rest) s.whole s.places (record { parts = append_assoc (sign_text neg) whole (b ∷ rest); minus = λ _ more e. no_minus whole (b ∷ rest) more some f.digits e; digits = f.digits; stops = f.stops }) n in
          no_point rest s.places parts.2

-- no digit after the point, or another byte after the places
pub stops_in_places : (text : List ℕ) (neg : Bool) (whole places left : List ℕ) → Found text neg whole (46 ∷ (places ++ left)) → 0 < length whole → AllDigits 10 places → NoDigitFirst left → (0 < length places → 0 < length left) → SpellsNone text × IsLongestFront text (length (sign_text neg ++ (whole ++ (46 ∷ places))))
stops_in_places text neg whole places [] f some h stops not =
    subst (λ t. SpellsNone t × IsLongestFront t (length (sign_text neg ++ (whole ++ (46 ∷ places))))) (sym same) (short (sign_text neg ++ (whole ++ (46 ∷ places))) (point_begins neg whole places some f.digits h) none) where
      same : text ≡ sign_text neg ++ (whole ++ (46 ∷ places))
      same = f.parts ∙ ap (λ l. sign_text neg ++ (whole ++ (46 ∷ l))) (append-nil places)

      no_places : (ps qs : List ℕ) → (0 < length qs → ⊥) → 46 ∷ qs ≡ point_text ps → ⊥
      no_places [] qs empty e = cc e
      no_places (p ∷ ps) [] empty e = cc e
      no_places (p ∷ ps) (q ∷ qs) empty e = empty (omega arith)

      none : SpellsNone (sign_text neg ++ (whole ++ (46 ∷ places)))
      none d s =
          let parts = same_parts (sign_text neg ++ (whole ++ (46 ∷ places))) neg s.negative whole (46 ∷ places) s.whole s.places (record { parts = refl; minus = λ _ more e. no_minus whole (46 ∷ places) more some f.digits e; digits = f.digits; stops = omega arith }) s.form in
          no_places s.places places (λ l. absurd (let more = not l in omega arith)) parts.2
stops_in_places text neg whole places (b ∷ tail) f some h stops not =
    subst (λ t. SpellsNone t × IsLongestFront t (length front)) (sym (f.parts ∙ sym (whole_text tail))) (stuck front b tail (point_begins neg whole places some f.digits h) none) where
      front : List ℕ
      front = sign_text neg ++ (whole ++ (46 ∷ places))

      whole_text : (rest : List ℕ) → (sign_text neg ++ (whole ++ (46 ∷ places))) ++ (b ∷ rest) ≡ sign_text neg ++ (whole ++ (46 ∷ (places ++ (b ∷ rest))))
      whole_text rest = append_assoc (sign_text neg) (whole ++ (46 ∷ places)) (b ∷ rest) ∙ ap (λ l. sign_text neg ++ l) (append_assoc whole (46 ∷ places) (b ∷ rest))

      no_digit : (ps qs rest : List ℕ) → AllDigits 10 ps → 46 ∷ (qs ++ (b ∷ rest)) ≡ point_text ps → ⊥
      no_digit [] qs rest h e = cc e
      no_digit (p ∷ ps) qs rest h e =
          let digits : qs ++ (b ∷ rest) ≡ p ∷ ps = cc in
          let all : AllDigits 10 (qs ++ (b ∷ rest)) = subst (λ l. AllDigits 10 l) (sym digits) h in
          let digit = digit_after qs b rest all in
          omega arith

      none : (rest : List ℕ) → SpellsNone ((sign_text neg ++ (whole ++ (46 ∷ places))) ++ (b ∷ rest))
      none rest d s =
          let parts = same_parts ((sign_text neg ++ (whole ++ (46 ∷ places))) ++ (b ∷ rest)) neg s.negative whole (46 ∷ (places ++ (b ∷ rest))) s.whole s.places (record { parts = whole_text rest; minus = λ _ more e. no_minus whole (46 ∷ (places ++ (b ∷ rest))) more some f.digits e; digits = f.digits; stops = omega arith }) s.form in
          no_digit s.places places rest s.form.place_digits parts.2

-- the same, by the code's two splits
pub found : (text rest : List ℕ) (neg : Bool) (whole after : List ℕ) → IsSignSplit text neg rest → IsDigitSplit rest whole after → Found text neg whole after
found text rest neg whole after s d = record {
  parts = s.parts ∙ ap (λ l. sign_text neg ++ l) d.parts;
  minus = λ e. subst (λ l. NotFirst 45 l) d.parts (s.minus e);
  digits = d.digits;
  stops = d.stops;
}

place : (text front after : List ℕ) → text ≡ front ++ after → length front ≡ length text - length after
place text front after e = let l = ap length e in omega (arith, length-append front after)

pub ends_at_sign : (text rest : List ℕ) (neg : Bool) (whole after : List ℕ) → IsSignSplit text neg rest → IsDigitSplit rest whole after → length whole ≡ 0 → SpellsNone text × IsLongestFront text (length text - length after)
ends_at_sign text rest neg [] after s d empty =
    let f = found text rest neg [] after s d in
    subst (λ at. SpellsNone text × IsLongestFront text at) (place text (sign_text neg) after f.parts) (stops_at_sign text neg after f)
ends_at_sign text rest neg (w ∷ ws) after s d empty = absurd (omega arith)

pub ends_at_point : (text rest : List ℕ) (neg : Bool) (whole after : List ℕ) → IsSignSplit text neg rest → IsDigitSplit rest whole after → 0 < length whole → 0 < length after → NotFirst 46 after → SpellsNone text × IsLongestFront text (length text - length after)
ends_at_point text rest neg whole [] s d some more other = absurd (omega arith)
ends_at_point text rest neg whole (b ∷ tail) s d some more other =
    let f = found text rest neg whole (b ∷ tail) s d in
    subst (λ at. SpellsNone text × IsLongestFront text at) (place text (sign_text neg ++ whole) (b ∷ tail) (f.parts ∙ sym (append_assoc (sign_text neg) whole (b ∷ tail)))) (stops_at_point text neg whole b tail f some (λ e. other tail (ap (λ x. x ∷ tail) e)))

pub ends_in_places : (text rest : List ℕ) (neg : Bool) (whole after fraction places left : List ℕ) → IsSignSplit text neg rest → IsDigitSplit rest whole after → 0 < length whole → after ≡ 46 ∷ fraction → IsDigitSplit fraction places left → (0 < length places → 0 < length left) → SpellsNone text × IsLongestFront text (length text - length left)
ends_in_places text rest neg whole after fraction places left s d some point p not =
    let f = found text rest neg whole after s d in
    let f' = subst (λ l. Found text neg whole l) (point ∙ ap (λ l. 46 ∷ l) p.parts) f in
    let front = sign_text neg ++ (whole ++ (46 ∷ places)) in
    let same : text ≡ front ++ left = f'.parts ∙ ap (λ l. sign_text neg ++ l) (sym (append_assoc whole (46 ∷ places) left)) ∙ sym (append_assoc (sign_text neg) (whole ++ (46 ∷ places)) left) in
    subst (λ at. SpellsNone text × IsLongestFront text at) (place text front left same) (stops_in_places text neg whole places left f' some p.digits p.stops not)

-- a number without places, and one with places
pub whole_number : (text rest : List ℕ) (neg : Bool) (whole after : List ℕ) → IsSignSplit text neg rest → IsDigitSplit rest whole after → 0 < length whole → length after ≡ 0 → IsNumber text neg whole after
whole_number text rest neg whole [] s d some none = record { parts = (found text rest neg whole [] s d).parts; some = some; whole_digits = d.digits; place_digits = tt }
whole_number text rest neg whole (b ∷ bs) s d some none = absurd (omega arith)

pub number_with_places : (text rest : List ℕ) (neg : Bool) (whole after fraction places left : List ℕ) → IsSignSplit text neg rest → IsDigitSplit rest whole after → 0 < length whole → after ≡ 46 ∷ fraction → IsDigitSplit fraction places left → 0 < length places → length left ≡ 0 → IsNumber text neg whole places
number_with_places text rest neg whole after fraction [] left s d some point p more none = absurd (omega arith)
number_with_places text rest neg whole after fraction (b ∷ bs) (x ∷ xs) s d some point p more none = absurd (omega arith)
number_with_places text rest neg whole after fraction (b ∷ bs) [] s d some point p more none = record {
  parts = (found text rest neg whole after s d).parts ∙ ap (λ l. sign_text neg ++ (whole ++ l)) (point ∙ ap (λ l. 46 ∷ l) (p.parts ∙ append-nil (b ∷ bs)));
  some = some;
  whole_digits = d.digits;
  place_digits = p.digits;
}
