-- The decimal of a declared literal is kept.
use Rattle.std.proofs.Common.{◌≡◌, ℕ, zero, suc, ◌-◌, ◌*◌, ◌^◌, ◌<◌, ◌≤◌, ℤ, pos, negsuc, ◌*ℤ◌, neg_ℤ, unsigned_abs, List, [], ◌∷◌, Option, Some, None, ap, subst, arith}
use Rattle.std.specs.Prelude.{⊤}
use Rattle.std.specs.List.{All}
use Rattle.std.specs.Option.{option_map}
use Rattle.std.proofs.lemmas.Int.{ints}
use Rattle.std.proofs.lemmas.List.Elements.{All-nil, All-cons}
use Rattle.scaled_decimal.specs.Decimals.{Decimal, numerator_of, scale_of}
use Rattle.scaled_decimal.specs.Limits.{IsKept, IsWithinLimit}
use Rattle.scaled_decimal.specs.Shortening.{IsShortened}
use Rattle.scaled_decimal.proofs.Laws.{ten_some}
use Rattle.pap_tree.specs.declared.expression.Known.{Known}
use Rattle.pap_tree.specs.declared.expression.Known.TheVariants as knowns
use Rattle.pap_tree.specs.Tokens as tokens
use Rattle.pap_tree.specs.Tokens.{Number, Token, Literal, Quoted, IsFirst}
use Rattle.pap_tree.specs.Grammar as grammar
use Rattle.pap_tree.specs.Grammar.{Item, Line, Constant, LineMeaning, literal, declared, Way, leaf_of, negative_of, known_value}
use Rattle.pap_tree.specs.Expressions.{IsAccepted}
use Rattle.pap_tree.specs.Declarations.{Declaration, DeclaredLiteral}
use Rattle.pap_types.specs.Scopes.{leaf_decimal, literal_decimal}
use Rattle.pap_reader.specs.Trees.{RawDeclaration}
use Rattle.plan_text.specs.Plans.{IsLiteralText, AreDeclarations}
use Rattle.pap_plan.proofs.TextLemmas.{AllItems, accepted_meant}

abbrev IsKeptMeaning : LineMeaning → Type 0
IsKeptMeaning (literal l) = IsKept (leaf_decimal l)
IsKeptMeaning (declared l) = IsKept (literal_decimal l)
IsKeptMeaning x = ⊤

abbrev IsKeptToken : Token → Type 0
IsKeptToken (Literal n) = IsKept (leaf_decimal (leaf_of n))
IsKeptToken (Quoted d) = IsKept d
IsKeptToken t = ⊤

-- ---- numbers

negated_within : (n : ℕ) → IsWithinLimit (pos n) → IsWithinLimit (neg_ℤ (pos n))
negated_within n h = omega (arith, ints)

opposite_within : (z : ℤ) → IsWithinLimit z → IsWithinLimit (neg_ℤ z)
opposite_within z h = omega (arith, ints)

negative_kept : (n : Number) → IsKept (leaf_decimal (leaf_of n)) → IsKept (leaf_decimal (negative_of n))
negative_kept (tokens.int n) h = record { numerator = negated_within n h.numerator; scale = h.scale }
negative_kept (tokens.long n) h = record { numerator = negated_within n h.numerator; scale = h.scale }
negative_kept (tokens.point d) h = record { numerator = opposite_within (numerator_of d) h.numerator; scale = h.scale }

known_kept : (k : Known) → IsKept (known_value k)
known_kept knowns.Zero = record { numerator = omega arith; scale = omega arith }
known_kept knowns.One = record { numerator = omega arith; scale = omega arith }
known_kept knowns.Ten = record { numerator = omega arith; scale = omega arith }

abs_times : (x : ℤ) (k : ℕ) → unsigned_abs (x *ℤ pos k) ≡ unsigned_abs x * k
abs_times (pos m) k = omega (arith, ints)
abs_times (negsuc m) k = omega (arith, ints)

grows : (m k : ℕ) → 0 < k → m ≤ m * k
grows m zero some = absurd (omega arith)
grows m (suc k) some = grind arith

-- fewer zeros make no greater number
shortened_kept : (d e : Decimal) (least : ℕ) → IsShortened d least e → IsKept d → IsKept e
shortened_kept d e least h k =
    let times = abs_times (numerator_of e) (10 ^ (scale_of d - scale_of e)) in
    let same = ap unsigned_abs h.same in
    let more = grows (unsigned_abs (numerator_of e)) (10 ^ (scale_of d - scale_of e)) (ten_some (scale_of d - scale_of e)) in
    let most = k.numerator in
    record { numerator = omega arith; scale = omega (arith, h.high, k.scale) }

-- ---- texts

way_kept : (l : Line) (way : List Item) (x : LineMeaning) → Way l way x → AllItems IsKeptMeaning IsKeptToken way → IsKeptMeaning x
way_kept line way meant (grammar.without_sign f n e) h = h.0
way_kept line way meant (grammar.with_sign f n e) h = negative_kept n h.0
way_kept line way meant (grammar.big_constant d) h = h.0
way_kept line way meant (grammar.number_constant f l) h = h.0
way_kept line way meant (grammar.table_constant ds) h = record { numerator = omega arith; scale = omega arith }
way_kept line way meant (grammar.big_known k) h = known_kept k
way_kept line way meant (grammar.big_of_int i) h = h.1.1.1.0
way_kept line way meant (grammar.big_of_scaled i s le) h = record { numerator = h.1.1.1.0.numerator; scale = le }
way_kept line way meant (grammar.big_of_point d e is) h = shortened_kept d e 1 is h.1.1.1.0
way_kept line way meant (grammar.big_new i) h = h.1.1.0
way_kept line way meant (grammar.big_new_text d) h = h.1.1.0
way_kept line way meant w h = tt

first_kept : (text rest : List ℕ) (t : Token) → IsFirst text rest t → IsKeptToken t
first_kept text rest (Literal (tokens.int n)) h = let most = h.0.1 in record { numerator = omega arith; scale = omega arith }
first_kept text rest (Literal (tokens.long n)) h = let most = h.0.1 in record { numerator = omega arith; scale = omega arith }
first_kept text rest (Literal (tokens.point d)) h = h.0.1
first_kept text rest (Quoted d) h = h.0.1
first_kept text rest t h = tt

literal_kept : (bytes : List ℕ) (l : DeclaredLiteral) → IsAccepted Constant bytes (declared l) → IsKept (literal_decimal l)
literal_kept bytes l h = accepted_meant IsKeptMeaning IsKeptToken way_kept first_kept Constant bytes (declared l) h

-- ---- declarations

-- the decimal of the value that is written, where one is, is kept
abbrev pub HasKeptValue : Declaration → Type 0
HasKeptValue d = (v : Decimal) → option_map literal_decimal d.value ≡ Some v → IsKept v

value_kept : (raw : Option (List ℕ)) (l : Option DeclaredLiteral) → IsLiteralText raw l → (v : Decimal) → option_map literal_decimal l ≡ Some v → IsKept v
value_kept None None h v e = absurd (cc e)
value_kept None (Some l) h v e = absurd h
value_kept (Some text) None h v e = absurd h
value_kept (Some text) (Some l) h v e = let same : literal_decimal l ≡ v = cc in subst IsKept same (literal_kept text l h)

pub values_kept : (raws : List RawDeclaration) (ds : List Declaration) → AreDeclarations raws ds → All HasKeptValue ds
values_kept [] [] h = All-nil HasKeptValue
values_kept [] (d ∷ ds) h = absurd h
values_kept (raw ∷ raws) [] h = absurd h
values_kept (raw ∷ raws) (d ∷ ds) h = All-cons HasKeptValue d ds (value_kept raw.value d.value h.0.value) (values_kept raws ds h.1)
