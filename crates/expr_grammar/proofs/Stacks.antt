-- What a stack has read.
use Rattle.std.proofs.Common.{◌≡◌, ℕ, suc, ◌+◌, ◌≤◌, false, Option, List, [], ◌∷◌, ◌++◌, refl, sym, subst, arith}
use Rattle.std.specs.Prelude.{IsTrue}
use Rattle.scaled_decimal.specs.Decimals.{Decimal}
use Rattle.scaled_decimal.specs.Limits.{most_places}
use Rattle.scaled_decimal.specs.declared.rounding.Mode.{Mode}
use Rattle.pap_tree.specs.Names.{is_name}
use Rattle.pap_tree.specs.declared.expression.Unary.TheVariants as unaries
use Rattle.pap_tree.specs.declared.expression.Binary.TheVariants as binaries
use Rattle.pap_tree.specs.declared.expression.Call.TheVariants as calls
use Rattle.pap_tree.specs.Term.{Term, text, unary, value_of, value_of_scaled, new_big, operator, method, divide, leaf, item, one, two, choice}
use Rattle.pap_tree.specs.Words.{level_of_operator}
use Rattle.pap_tree.specs.Tokens.{Token, Quoted, Word, Operator, Mark, Equals, Colon, Comma, Close, CloseItem}
use Rattle.pap_tree.specs.Grammar as grammar
use Rattle.pap_tree.specs.Grammar.{Item, Is, Scale, Part, Guard, free, no_number, no_point, of_value, of_quotient, Line, Level, Assignment, LineMeaning, tree, at, sign, rounding}
use Rattle.pap_tree.specs.Texts.{forbids}
use Rattle.pap_tree.specs.Fronts as fronts
use Rattle.pap_tree.specs.Fronts.{Front}
use Rattle.pap_tree.specs.Stopping.{new_big_decimal}
use Rattle.expr_grammar.specs.Machine.{Frame, InBrackets, InCall, InItem, InValue, InNew, Negating, Denying, Left, Chosen, Otherwise, Assigning, Want, level}
use Rattle.expr_grammar.proofs.Holes.{hole, clashes}
use Rattle.expr_grammar.proofs.Pending.{Pending, Plugs, Fits, front_inside}
use Rattle.expr_grammar.proofs.Levels.{looser_front, some_term}

-- of a whole line, the stack has read these tokens
abbrev pub Stack : Line → List Frame → List Token → Type 0
Stack whole [] a = (whole ≡ Level 0) × (a ≡ [])
Stack whole (Assigning w ∷ k) a = (whole ≡ Assignment) × (k ≡ []) × IsTrue (is_name w) × (a ≡ Word w ∷ Mark Equals ∷ [])
Stack whole (InBrackets ∷ k) a = (y : Term) → Pending (λ p. Stack whole k p) k (Level 9) (at 0 y ∷ sign Close ∷ []) 1 (tree y) a
Stack whole (InCall c x ∷ k) a =
    ((y : Term) → Pending (λ p. Stack whole k p) k (Level 8) (at 0 y ∷ sign Close ∷ []) 1 (tree (two (method c) x y)) a)
    × ((y : Term) (s : ℕ) (m : Mode) → c ≡ calls.DivideExact → s ≤ most_places
    → Pending (λ p. Stack whole k p) k (Level 8) (at 0 y ∷ sign Comma ∷ Scale of_quotient s ∷ sign Comma ∷ rounding m ∷ sign Close ∷ []) 1 (tree (two (divide s m) x y)) a)
Stack whole (InItem w ∷ k) a = (y : Term) → Pending (λ p. Stack whole k p) k (Level 9) (at 0 y ∷ sign CloseItem ∷ []) 1 (tree (item w y)) a
Stack whole (InValue ∷ k) a =
    ((y : Term) → Pending (λ p. Stack whole k p) k (Level 9) (at 0 y ∷ sign Close ∷ []) 1 (tree (one value_of y)) a)
    × ((y : Term) (s : ℕ) → s ≤ most_places
    → Pending (λ p. Stack whole k p) k (Level 9) (at 0 y ∷ sign Comma ∷ Scale of_value s ∷ sign Close ∷ []) 1 (tree (one (value_of_scaled s) y)) a)
Stack whole (InNew ∷ k) a =
    ((y : Term) → Pending (λ p. Stack whole k p) k (Level 9) (Part no_point (Level 0) (tree y) ∷ sign Close ∷ []) 1 (tree (one new_big y)) a)
    × ((d : Decimal) → Pending (λ p. Stack whole k p) k (Level 9) (Is (Quoted d) ∷ sign Close ∷ []) 1 (tree (leaf (text d))) a)
    × ((p : List Token) × (a ≡ p ++ new_big_decimal))
Stack whole (Negating ∷ k) a =
    ((y : Term) → Pending (λ p. Stack whole k p) k (Level 7) (Part no_number (Level 7) (tree y) ∷ []) 1 (tree (one (unary unaries.Minus) y)) a)
    × ((p : List Token) × Stack whole k p × (a ≡ p ++ (Operator binaries.Sub ∷ [])))
Stack whole (Denying ∷ k) a = (y : Term) → Pending (λ p. Stack whole k p) k (Level 7) (at 7 y ∷ []) 1 (tree (one (unary unaries.Not) y)) a
Stack whole (Left o x ∷ k) a = (y : Term)
    → Pending (λ p. Stack whole k p) k (Level (level_of_operator o)) (at (suc (level_of_operator o)) y ∷ []) 0 (tree (two (operator o) x y)) a
Stack whole (Chosen c ∷ k) a = (x y : Term) → Pending (λ p. Stack whole k p) k (Level 0) (at 0 x ∷ sign Colon ∷ at 0 y ∷ []) 1 (tree (choice c x y)) a
Stack whole (Otherwise c x ∷ k) a = (y : Term) → Pending (λ p. Stack whole k p) k (Level 0) (at 0 y ∷ []) 1 (tree (choice c x y)) a

-- A front of the part that a frame waits for makes a front of the whole.
plug_part : (S T : List Token → Type 0) (k j : List Frame) (l whole : Line) (v w : ℕ) (g : Guard) (m n : ℕ) (more : List Item) (u : ℕ) (z : LineMeaning)
    → (Fits l k → Plugs S k l whole v) → ((a : List Token) → T a → Pending S k l (Part g (Level n) (tree some_term) ∷ more) u z a)
    → ((a : List Token) → clashes (Want j) a ≡ false → forbids g a ≡ false) → n ≤ m → m ≤ 9 → w ≡ u + v → Plugs T j (Level m) whole w
plug_part S T k j l whole v w g m n more u z outer pending allowed h le e p b q i s f cl =
    subst (λ x. Front whole (p ++ b) x i) (let d : (u + q) + v ≡ q + w = omega (arith, e) in d)
    (front_inside S k l whole v g (Level n) (tree some_term) more u z p b q i (outer (pending p s).fits) (allowed b cl) (looser_front m n b q i h le f) (pending p s))

plug_whole : (whole : Line) (m : ℕ) (p b : List Token) (n : ℕ) (i : Option Item) → (whole ≡ Level 0) × (p ≡ []) → m ≤ 9 → Front (Level m) b n i → Front whole (p ++ b) (n + 0) i
plug_whole whole m p b n i (e, f) le h =
    let g : n ≡ n + 0 = omega arith in
    subst (λ l. Front l (p ++ b) (n + 0) i) (sym e) (subst (λ p. Front (Level 0) (p ++ b) (n + 0) i) (sym f) (subst (λ n. Front (Level 0) b n i) g (looser_front m 0 b n i (omega arith) le h)))

plug_assigned : (whole : Line) (k : List Frame) (w : List ℕ) (m : ℕ) (p b : List Token) (n : ℕ) (i : Option Item) → Stack whole (Assigning w ∷ k) p → m ≤ 9 → Front (Level m) b n i
    → Front whole (p ++ b) (n + level k) i
plug_assigned whole k w m p b n i (e, d, name, f) le h =
    let g : n ≡ n + 0 = omega arith in
    let one : Front Assignment (Word w ∷ Mark Equals ∷ b) n i = fronts.by _ (grammar.assign w some_term name) (fronts.is (fronts.is (fronts.inside n (omega arith) refl (looser_front m 0 b n i (omega arith) le h)))) in
    subst (λ l. Front l (p ++ b) (n + level k) i) (sym e)
    (subst (λ p. Front Assignment (p ++ b) (n + level k) i) (sym f)
    (subst (λ (k : List Frame). Front Assignment (Word w ∷ Mark Equals ∷ b) (n + level k) i) (sym d) (subst (λ n. Front Assignment (Word w ∷ Mark Equals ∷ b) n i) g one)))

-- A front of what is due makes a front of the whole.
pub plug : (whole : Line) (k : List Frame) (m : ℕ) → hole k ≤ m → m ≤ 9 → Plugs (λ p. Stack whole k p) k (Level m) whole (level k)
plug whole [] m h le = λ p b n i s f cl. plug_whole whole m p b n i s le f
plug whole (Assigning w ∷ k) m h le = λ p b n i s f cl. plug_assigned whole k w m p b n i s le f
plug whole (InBrackets ∷ k) m h le =
    plug_part (λ p. Stack whole k p) (λ p. Stack whole (InBrackets ∷ k) p) k (InBrackets ∷ k) (Level 9) whole (level k) (level (InBrackets ∷ k)) free m 0 _ 1 (tree some_term)
    (λ f. plug whole k 9 f.0 f.1) (λ a s. s some_term) (λ a e. refl) h le (omega arith)
plug whole (InCall c x ∷ k) m h le =
    plug_part (λ p. Stack whole k p) (λ p. Stack whole (InCall c x ∷ k) p) k (InCall c x ∷ k) (Level 8) whole (level k) (level (InCall c x ∷ k)) free m 0 _ 1 (tree (two (method c) x some_term))
    (λ f. plug whole k 8 f.0 f.1) (λ a s. s.0 some_term) (λ a e. refl) h le (omega arith)
plug whole (InItem w ∷ k) m h le =
    plug_part (λ p. Stack whole k p) (λ p. Stack whole (InItem w ∷ k) p) k (InItem w ∷ k) (Level 9) whole (level k) (level (InItem w ∷ k)) free m 0 _ 1 (tree (item w some_term))
    (λ f. plug whole k 9 f.0 f.1) (λ a s. s some_term) (λ a e. refl) h le (omega arith)
plug whole (InValue ∷ k) m h le =
    plug_part (λ p. Stack whole k p) (λ p. Stack whole (InValue ∷ k) p) k (InValue ∷ k) (Level 9) whole (level k) (level (InValue ∷ k)) free m 0 _ 1 (tree (one value_of some_term))
    (λ f. plug whole k 9 f.0 f.1) (λ a s. s.0 some_term) (λ a e. refl) h le (omega arith)
plug whole (InNew ∷ k) m h le =
    plug_part (λ p. Stack whole k p) (λ p. Stack whole (InNew ∷ k) p) k (InNew ∷ k) (Level 9) whole (level k) (level (InNew ∷ k)) no_point m 0 _ 1 (tree (one new_big some_term))
    (λ f. plug whole k 9 f.0 f.1) (λ a s. s.0 some_term) (λ a e. e) h le (omega arith)
plug whole (Negating ∷ k) m h le =
    plug_part (λ p. Stack whole k p) (λ p. Stack whole (Negating ∷ k) p) k (Negating ∷ k) (Level 7) whole (level k) (level (Negating ∷ k)) no_number m 7 _ 1 (tree (one (unary unaries.Minus) some_term))
    (λ f. plug whole k 7 f.0 f.1) (λ a s. s.0 some_term) (λ a e. e) h le (omega arith)
plug whole (Denying ∷ k) m h le =
    plug_part (λ p. Stack whole k p) (λ p. Stack whole (Denying ∷ k) p) k (Denying ∷ k) (Level 7) whole (level k) (level (Denying ∷ k)) free m 7 _ 1 (tree (one (unary unaries.Not) some_term))
    (λ f. plug whole k 7 f.0 f.1) (λ a s. s some_term) (λ a e. refl) h le (omega arith)
plug whole (Left o x ∷ k) m h le =
    plug_part (λ p. Stack whole k p) (λ p. Stack whole (Left o x ∷ k) p) k (Left o x ∷ k) (Level (level_of_operator o)) whole (level k) (level (Left o x ∷ k)) free m (suc (level_of_operator o)) _ 0 (tree (two (operator o) x some_term))
    (λ f. plug whole k (level_of_operator o) f.0 f.1) (λ a s. s some_term) (λ a e. refl) h le (omega arith)
plug whole (Chosen c ∷ k) m h le =
    plug_part (λ p. Stack whole k p) (λ p. Stack whole (Chosen c ∷ k) p) k (Chosen c ∷ k) (Level 0) whole (level k) (level (Chosen c ∷ k)) free m 0 _ 1 (tree (choice c some_term some_term))
    (λ f. plug whole k 0 f.0 f.1) (λ a s. s some_term some_term) (λ a e. refl) h le (omega arith)
plug whole (Otherwise c x ∷ k) m h le =
    plug_part (λ p. Stack whole k p) (λ p. Stack whole (Otherwise c x ∷ k) p) k (Otherwise c x ∷ k) (Level 0) whole (level k) (level (Otherwise c x ∷ k)) free m 0 _ 1 (tree (choice c x some_term))
    (λ f. plug whole k 0 f.0 f.1) (λ a s. s some_term) (λ a e. refl) h le (omega arith)
