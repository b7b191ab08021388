-- The prefixes of texts of the grammar's lines (`Front`): texts of the first items of a way, one after the other, and then a
-- prefix of a text of the next item, or nothing where no item is left; with each the open levels and the next item.
use Rattle.std.specs.Prelude.{◌≡◌, ℕ, suc, ◌+◌, false, Option, Some, None, List, [], ◌∷◌, ◌++◌}
use Rattle.pap_tree.specs.Tokens.{Token, Literal, int}
use Rattle.pap_tree.specs.Grammar.{Item, Is, Opens, Scale, Part, Guard, Line, LineMeaning, Way, Scaling}
use Rattle.pap_tree.specs.Texts.{Derives, forbids}

mutual
  -- The tokens are a prefix of a text of the line: so many levels are open, and this item comes next, or none is left.
  pub data Front : Line → List Token → ℕ → Option Item → Type 0 where
    by : {l : Line} {ts : List Token} {n : ℕ} {i : Option Item} {x : LineMeaning} (way : List Item)
        → Way l way x → Fronts 0 way ts n i → Front l ts n i

  -- The tokens are such a prefix of the items that are left of a way, of which k levels are open.
  pub data Fronts : ℕ → List Item → List Token → ℕ → Option Item → Type 0 where
    done : {k : ℕ} → Fronts k [] [] 0 None
    here : {k : ℕ} {i : Item} {more : List Item} → Fronts k (i ∷ more) [] k (Some i)
    is : {k : ℕ} {t : Token} {more : List Item} {ts : List Token} {n : ℕ} {i : Option Item}
        → Fronts k more ts n i → Fronts k (Is t ∷ more) (t ∷ ts) n i
    opens : {k : ℕ} {t : Token} {more : List Item} {ts : List Token} {n : ℕ} {i : Option Item}
        → Fronts (suc k) more ts n i → Fronts k (Opens t ∷ more) (t ∷ ts) n i
    scale : {k : ℕ} {p : Scaling} {s : ℕ} {more : List Item} {ts : List Token} {n : ℕ} {i : Option Item}
        → Fronts k more ts n i → Fronts k (Scale p s ∷ more) (Literal (int s) ∷ ts) n i
    inside : {k : ℕ} {g : Guard} {l : Line} {x : LineMeaning} {more : List Item} {ts : List Token} {n : ℕ} {i : Option Item}
        (m : ℕ) → m ≡ k + n → forbids g ts ≡ false → Front l ts n i → Fronts k (Part g l x ∷ more) ts m i
    past : {k : ℕ} {g : Guard} {l : Line} {x : LineMeaning} {more : List Item} {a ts : List Token} {n : ℕ} {i : Option Item}
        → forbids g a ≡ false → Derives l a x → Fronts k more ts n i → Fronts k (Part g l x ∷ more) (a ++ ts) n i

-- The tokens are a prefix of a text of the line.
abbrev pub IsFront : Line → List Token → Type 0
IsFront l ts = (n : ℕ) × (i : Option Item) × Front l ts n i
