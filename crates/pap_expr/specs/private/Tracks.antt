-- What a trail holds, step by step with the machine.
use Rattle.std.specs.Prelude.{ℕ, Bool, true, false, Option, Some, List, [], ◌∷◌, ◌++◌, if◌then◌else◌}
use Rattle.pap_tree.specs.Tokens.{Token, Literal, Quoted, Word, Operator, Mark, Sign, Question, Dot, Comma, Close, CloseItem, OpenItem}
use Rattle.expr_grammar.specs.Machine.{Frame, InBrackets, Negating, State, Want, Have, Named, Due, Static, Constancy, constant, constancy_of, binds, closes, tightness}
use Rattle.pap_expr.specs.declared.stretch.Stretch.{Stretch}
use Rattle.pap_expr.specs.declared.trail.Trail.{Trail}
use Rattle.pap_expr.specs.NodeBytes.{stretch}

-- where the nodes stand that are made, and where those begin that aren't
pub record Track : Type 0 where
  -- the first byte of what each frame has read, the innermost frame first
  pub begins : List ℕ
  -- the first byte of the expression that is read
  pub first : ℕ
  -- the place behind the last token
  pub end : ℕ
  -- the bytes of the nodes, by number
  pub made : List Stretch

abbrev pub inner_first : List ℕ → List ℕ
inner_first [] = []
inner_first (b ∷ bs) = inner_first bs ++ (b ∷ [])

abbrev pub track_of : Trail → Track
track_of t = record { begins = inner_first t.begins.items; first = t.first; end = t.end; made = t.made.items }

-- where nothing is read
abbrev pub no_track : Track
no_track = record { begins = []; first = 0; end = 0; made = [] }

-- an expression begins at this byte
abbrev pub begun : ℕ → Track → Track
begun first r = record r { first = first }

-- a frame is opened, to which the expression belongs that is read
abbrev pub opened : Track → Track
opened r = record r { begins = r.first ∷ r.begins }

-- the innermost frame is taken, and so the expression begins where the frame does
abbrev pub begun_with : List ℕ → Track → Track
begun_with [] r = r
begun_with (b ∷ bs) r = record r { begins = bs; first = b }

abbrev pub taken : Track → Track
taken r = begun_with r.begins r

-- the expression is a node, which ends here
abbrev pub noted : ℕ → Track → Track
noted end r = record r { made = r.made ++ (stretch r.first end ∷ []) }

-- the frames that bind at least so tightly take the expression
abbrev pub close_track : ℕ → List Frame → Track → Track × List Frame
close_track n [] r = (r, [])
close_track n (f ∷ k) r = if closes n (binds f) then close_track n k (noted r.end (taken r)) else (r, f ∷ k)

-- the innermost frame is a pair of brackets
abbrev pub is_bracketed : List Frame → Bool
is_bracketed (InBrackets ∷ k) = true
is_bracketed k = false

-- a bracket or a comma ends what the innermost frame waits for
abbrev pub ended_track : List Frame → Sign → ℕ → Track → Track
ended_track k Close end r = if is_bracketed k then taken r else noted end (taken r)
ended_track k CloseItem end r = noted end (taken r)
ended_track k Comma end r = taken r
ended_track k s end r = r

abbrev pub marked_track : List Frame → Sign → ℕ → Track → Track
marked_track k Dot end r = r
marked_track k Question end r = opened r
marked_track k s end r = ended_track k s end r

abbrev pub behind_track : Token → ℕ → Track × List Frame → Track
behind_track (Operator o) end p = opened p.0
behind_track (Mark s) end p = marked_track p.1 s end p.0
behind_track t end p = p.0

abbrev pub have_track : List Frame → Token → ℕ → Track → Track
have_track k t end r = behind_track t end (close_track (tightness t) k r)

abbrev pub named_track : List Frame → Token → ℕ → Track → Track
named_track k (Mark OpenItem) end r = opened r
named_track k t end r = have_track k t end (noted r.end r)

-- a literal takes the `-` before it
abbrev pub literal_track : List Frame → Track → Track
literal_track (Negating ∷ k) r = taken r
literal_track k r = r

abbrev pub want_track : List Frame → Token → Stretch → Track → Track
want_track k (Literal n) on r = noted on.end (literal_track k (begun on.first r))
want_track k (Quoted d) on r = taken r
want_track k (Word w) on r = begun on.first r
want_track k (Operator o) on r = opened (begun on.first r)
want_track k (Mark s) on r = opened (begun on.first r)
want_track k t on r = r

-- what was due is read: the end of a call, or the bracket before its argument
abbrev pub due_track : State → ℕ → Track → Track
due_track (Have x k) end r = noted end r
due_track (Want k) end r = opened r
due_track s end r = r

abbrev pub constant_track : Option Constancy → ℕ → Track → Track
constant_track (Some (constant c)) end r = noted end r
constant_track o end r = r

abbrev pub static_track : Token → ℕ → Track → Track
static_track (Word w) end r = constant_track (constancy_of w) end r
static_track t end r = r

-- the track after a token that stands on these bytes
abbrev pub step_track : State → Token → Stretch → Track → Track
step_track (Want k) t on r = want_track k t on r
step_track (Have x k) t on r = have_track k t on.end r
step_track (Named w k) t on r = named_track k t on.end r
step_track (Due n u s) t on r = due_track s on.end r
step_track (Static k) t on r = static_track t on.end r
step_track s t on r = r

abbrev pub next_track : State → Token → Stretch → Track → Track
next_track s t on r = record (step_track s t on r) { end = on.end }

-- the track where the tokens end
abbrev pub last_track : State → Track → Track
last_track (Have x k) r = (close_track 0 k r).0
last_track (Named w k) r = (close_track 0 k (noted r.end r)).0
last_track s r = r
