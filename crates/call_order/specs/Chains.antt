-- Chains of methods, each of which executes the next.
use Rattle.std.specs.Prelude.{ℕ, ◌<◌, List, [], ◌∷◌, ◌++◌, length, Contains, slice_index_or, ⊤}
use Rattle.call_order.specs.Graphs.{Content, Graph}

-- no statement
abbrev pub no_content : Content
no_content = record { statements = 0; methods = [] }

-- what the method of a number has
abbrev pub content_at : Graph → ℕ → Content
content_at g i = slice_index_or g i no_content

-- one method executes another
abbrev pub Executes : Graph → ℕ → ℕ → Type 0
Executes g i j = Contains (content_at g i).methods j

-- a method, and those that follow it, of which each is executed by the one before
abbrev pub IsCallChain : Graph → ℕ → List ℕ → Type 0
IsCallChain g i [] = ⊤
IsCallChain g i (j ∷ rest) = Executes g i j × IsCallChain g j rest

-- a chain leads from the one method to the other
abbrev pub Reaches : Graph → ℕ → ℕ → Type 0
Reaches g i j = (between : List ℕ) × IsCallChain g i (between ++ j ∷ [])

-- a chain leads from the method to itself
abbrev pub ReachesItself : Graph → ℕ → Type 0
ReachesItself g i = Reaches g i i

-- the method begins a chain of more than n methods
abbrev pub BeginsMore : Graph → ℕ → ℕ → Type 0
BeginsMore g n i = (rest : List ℕ) × IsCallChain g i rest × (n < length (i ∷ rest))
