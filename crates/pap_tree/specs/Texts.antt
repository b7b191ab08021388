-- The texts of the grammar's lines: the texts of the items of a way, one after the other.
use Rattle.std.specs.Prelude.{◌≡◌, ℕ, Bool, true, false, List, [], ◌∷◌, ◌++◌}
use Rattle.pap_tree.specs.declared.expression.Binary.TheVariants.{Sub}
use Rattle.pap_tree.specs.Tokens.{Token, Literal, Operator, int, point}
use Rattle.pap_tree.specs.Grammar.{Item, Is, Opens, Scale, Part, Guard, free, no_number, no_point, Line, LineMeaning, Way, Scaling}

-- a literal comes first
abbrev pub begins_number : List Token → Bool
begins_number (Literal n ∷ ts) = true
begins_number _ = false

-- a literal with a point, with or without a - before it
abbrev pub begins_point : List Token → Bool
begins_point (Literal (point d) ∷ ts) = true
begins_point (Operator Sub ∷ Literal (point d) ∷ ts) = true
begins_point _ = false

-- whether a part may not begin so
abbrev pub forbids : Guard → List Token → Bool
forbids free ts = false
forbids no_number ts = begins_number ts
forbids no_point ts = begins_point ts

mutual
  -- The tokens are a text of the line, and stand for this.
  pub data Derives : Line → List Token → LineMeaning → Type 0 where
    by : {l : Line} {ts : List Token} {x : LineMeaning} (way : List Item) → Way l way x → Texts way ts → Derives l ts x

  -- The tokens are texts of these items, one after the other.
  pub data Texts : List Item → List Token → Type 0 where
    done : Texts [] []
    is : {t : Token} {more : List Item} {ts : List Token} → Texts more ts → Texts (Is t ∷ more) (t ∷ ts)
    opens : {t : Token} {more : List Item} {ts : List Token} → Texts more ts → Texts (Opens t ∷ more) (t ∷ ts)
    scale : {p : Scaling} {s : ℕ} {more : List Item} {ts : List Token} → Texts more ts → Texts (Scale p s ∷ more) (Literal (int s) ∷ ts)
    part : {g : Guard} {l : Line} {x : LineMeaning} {more : List Item} {a ts : List Token}
        → forbids g a ≡ false → Derives l a x → Texts more ts → Texts (Part g l x ∷ more) (a ++ ts)
