-- What the elements of a text say.
use Rattle.std.specs.Prelude.{ℕ, Option, Some, None, List, [], ◌∷◌, ◌++◌, codes}
use Rattle.pap_tree.specs.declared.declaration.Kind.{Kind}
use Rattle.pap_tree.specs.declared.declaration.Kind.TheVariants as kinds
use Rattle.pap_reader.specs.declared.element.Element.{Element}
use Rattle.pap_reader.specs.declared.element.Element.TheVariants.{Input, Output, Internal, Constant, Main, Method, Eval, Execute, If, Then, Else}
use Rattle.pap_reader.specs.Tags.{Attribute}
use Rattle.pap_reader.specs.Marks.{Mark, begins, ends}
use Rattle.pap_reader.specs.Attributes.{attribute_value, kind_of}
use Rattle.pap_reader.specs.Trees.{RawDeclaration, RawBody, done, eval, branch, execute, RawRoutine, ElementTree}

-- two lists of statements, one after the other
abbrev pub join : RawBody → RawBody → RawBody
join done b = b
join (eval x a) b = eval x (join a b)
join (branch x y n a) b = branch x y n (join a b)
join (execute x a) b = execute x (join a b)

-- what elements one after the other say
pub record Piece : Type 0 where
  pub inputs : List RawDeclaration
  pub outputs : List RawDeclaration
  pub internals : List RawDeclaration
  pub constants : List RawDeclaration
  pub main : Option RawBody
  pub methods : List RawRoutine
  -- statements, and the statements of a THEN and of an ELSE
  pub statements : RawBody
  pub yes : Option RawBody
  pub no : Option RawBody

-- what no elements say
abbrev pub nothing : Piece
nothing = record {
  inputs = [];
  outputs = [];
  internals = [];
  constants = [];
  main = None;
  methods = [];
  statements = done;
  yes = None;
  no = None;
}

-- the second, where there is one
abbrev pub later : Option RawBody → Option RawBody → Option RawBody
later a None = a
later a (Some b) = Some b

-- what the elements of the one say, and those of the other after them
abbrev pub both : Piece → Piece → Piece
both p q = record {
  inputs = p.inputs ++ q.inputs;
  outputs = p.outputs ++ q.outputs;
  internals = p.internals ++ q.internals;
  constants = p.constants ++ q.constants;
  main = later p.main q.main;
  methods = p.methods ++ q.methods;
  statements = join p.statements q.statements;
  yes = later p.yes q.yes;
  no = later p.no q.no;
}

-- the text, or an empty one where none is written
abbrev pub or_empty : Option (List ℕ) → List ℕ
or_empty None = []
or_empty (Some v) = v

-- the statements, or an empty list of them
abbrev pub or_done : Option RawBody → RawBody
or_done None = done
or_done (Some b) = b

-- the type, or `int` where none is written
abbrev pub or_int : Option Kind → Kind
or_int None = kinds.Int
or_int (Some k) = k

-- the text of an attribute
abbrev pub attribute_text : List ℕ → List Attribute → List ℕ
attribute_text name attributes = or_empty (attribute_value name attributes)

-- a declared name, whose value stands in the attribute of the given name
abbrev pub declared : List ℕ → List Attribute → RawDeclaration
declared value attributes = record {
  name = attribute_text (codes "name") attributes;
  kind = or_int (kind_of (attribute_text (codes "type") attributes));
  value = attribute_value value attributes;
}

-- a method, named by its attribute
abbrev pub routine : List Attribute → RawBody → RawRoutine
routine attributes body = record { name = attribute_text (codes "name") attributes; body = body }

-- the table of what an element with these attributes adds, from what stands inside it
abbrev pub adds : Element → List Attribute → Piece → Piece
adds Input attributes p = record nothing { inputs = declared (codes "default") attributes ∷ [] }
adds Output attributes p = record nothing { outputs = declared (codes "default") attributes ∷ [] }
adds Internal attributes p = record nothing { internals = declared (codes "default") attributes ∷ [] }
adds Constant attributes p = record nothing { constants = declared (codes "value") attributes ∷ [] }
adds Eval attributes p = record nothing { statements = eval (attribute_text (codes "exec") attributes) done }
adds Execute attributes p = record nothing { statements = execute (attribute_text (codes "method") attributes) done }
adds If attributes p =
    record nothing { statements = branch (attribute_text (codes "expr") attributes) (or_done p.yes) (or_done p.no) done }
adds Then attributes p = record nothing { yes = Some p.statements }
adds Else attributes p = record nothing { no = Some p.statements }
adds Main attributes p = record nothing { main = Some p.statements }
adds Method attributes p = record nothing { methods = routine attributes p.statements ∷ [] }
adds _ attributes p = nothing

-- What stands inside an element says this said_outside of it too: all but statements.
abbrev pub said_outside : Piece → Piece
said_outside p = record p { statements = done; yes = None; no = None }

-- what an element says
abbrev pub says : Element → List Attribute → Piece → Piece
says e attributes p = both (said_outside p) (adds e attributes p)

-- The marks are elements, one after the other, that say this.
pub data ElementsSay : List Mark → Piece → Type 0 where
  none : ElementsSay [] nothing
  node : {inside rest : List Mark} {p q : Piece} (e : Element) (attributes : List Attribute)
      → ElementsSay inside p → ElementsSay rest q
      → ElementsSay (begins e attributes ∷ (inside ++ (ends e ∷ rest))) (both (says e attributes p) q)

-- the tree that all elements of a text say
abbrev pub piece_tree : Piece → ElementTree
piece_tree p = record {
  inputs = p.inputs;
  outputs = p.outputs;
  internals = p.internals;
  constants = p.constants;
  main = or_done p.main;
  methods = p.methods;
}
