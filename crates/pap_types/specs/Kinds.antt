-- The kinds of an expression's nodes, and which operands each operation takes (docs/PROFILE.md, "Kinds"). Source:
-- docs/PROFILE.md, "Kinds".
use Rattle.std.specs.Prelude.{ℕ, ◌^◌, ◌%◌, ◌==◌, Bool, true, false, ◌&&◌, ◌||◌, nat_lt, List, Option, Some, None, ℤ, pos, negsuc}
use Rattle.std.specs.Option.{option_and_then, option_map_or}
use Rattle.scaled_decimal.specs.Decimals.{Decimal, decimal, numerator_of, scale_of}
use Rattle.scaled_decimal.specs.Limits.{most_places}
use Rattle.pap_tree.specs.declared.declaration.Kind.TheVariants as declares
use Rattle.pap_tree.specs.declared.declaration.Kind.{Kind as DeclaredKind}
use Rattle.pap_tree.specs.declared.expression.Unary.TheVariants.{Minus, Not, Negate, Abs}
use Rattle.pap_tree.specs.declared.expression.Binary.{Binary}
use Rattle.pap_tree.specs.declared.expression.Binary.TheVariants as binaries
use Rattle.pap_tree.specs.declared.expression.Call.TheVariants as calls
use Rattle.pap_tree.specs.Grammar.{known_value}
use Rattle.pap_tree.specs.Scales.{is_kept_at}
use Rattle.pap_tree.specs.Declarations.{Declaration, DeclaredLiteral, big as declared_big}
use Rattle.pap_tree.specs.Term.{Leaf, whole, long, point, text, known, named, Term, leaf, item, one, two, choice, One, unary, value_of, value_of_scaled, new_big, set_scale, Two, operator, method, divide}
use Rattle.pap_types.specs.declared.kinds.NodeKind.{NodeKind}
use Rattle.pap_types.specs.declared.kinds.NodeKind.TheVariants.{Int, Long, Big, Truth, Fraction, Factor, Table}
use Rattle.pap_types.specs.Scopes.{Scope, declared_as, declaration_in, factor_places}

-- the kind is that of a whole number: `int` or `long`
abbrev pub is_whole : NodeKind → Bool
is_whole Int = true
is_whole Long = true
is_whole _ = false

-- the kind is that of an `int`
abbrev pub is_int : NodeKind → Bool
is_int Int = true
is_int _ = false

-- the kind is that of a `BigDecimal`
abbrev pub is_big : NodeKind → Bool
is_big Big = true
is_big _ = false

-- the kind is that of a truth
abbrev pub is_truth : NodeKind → Bool
is_truth Truth = true
is_truth _ = false

-- the kind is that of a table
abbrev pub is_table : NodeKind → Bool
is_table Table = true
is_table _ = false

-- the kind is that of a `double`
abbrev pub is_factor : NodeKind → Bool
is_factor Factor = true
is_factor _ = false

-- the kind is that of a literal with a point
abbrev pub is_fraction : NodeKind → Bool
is_fraction Fraction = true
is_fraction _ = false

-- the kind of what comes of two: `long` where the second is, else that of the first; so of two whole numbers `int` where
-- both are, and of two decimals a decimal
abbrev pub wider : NodeKind → NodeKind → NodeKind
wider j Long = Long
wider j _ = j

-- the kind of a name that is declared with a type
abbrev pub declared_kind : DeclaredKind → NodeKind
declared_kind declares.Int = Int
declared_kind declares.Long = Long
declared_kind declares.Big = Big
declared_kind declares.Factor = Factor
declared_kind declares.Table = Table

-- the kind of a name; an unknown name, which no well-formed plan has, counts as an int
abbrev pub name_kind : Scope → List ℕ → NodeKind
name_kind scope x = option_map_or (λ d. declared_kind d.kind) (declaration_in scope x) Int

-- the kind of a literal, or that of a name
abbrev pub leaf_kind : Scope → Leaf → NodeKind
leaf_kind scope (whole i) = Int
leaf_kind scope (long i) = Long
leaf_kind scope (point d) = Fraction
leaf_kind scope (text d) = Big
leaf_kind scope (known k) = Big
leaf_kind scope (named x) = name_kind scope x

-- the kind of an operation on one operand of this kind
abbrev pub kind_of_one : One → NodeKind → NodeKind
kind_of_one (unary Minus) k = k
kind_of_one (unary Not) k = Truth
kind_of_one _ k = Big

-- the kind of an operator's result: arithmetic is of whole numbers, and all else is a truth
abbrev pub kind_of_operator : Binary → NodeKind → NodeKind → NodeKind
kind_of_operator binaries.Mul j k = wider j k
kind_of_operator binaries.Div j k = wider j k
kind_of_operator binaries.Rem j k = wider j k
kind_of_operator binaries.Plus j k = wider j k
kind_of_operator binaries.Sub j k = wider j k
kind_of_operator _ j k = Truth

-- the kind of an operation on two operands: compareTo gives an `int`, each other method a decimal
abbrev pub kind_of_two : Two → NodeKind → NodeKind → NodeKind
kind_of_two (operator o) j k = kind_of_operator o j k
kind_of_two (method calls.CompareTo) j k = Int
kind_of_two _ j k = Big

-- the kind of an expression
abbrev pub kind_of : Scope → Term → NodeKind
kind_of scope (leaf l) = leaf_kind scope l
kind_of scope (item x e) = Big
kind_of scope (one op e) = kind_of_one op (kind_of scope e)
kind_of scope (two op e f) = kind_of_two op (kind_of scope e) (kind_of scope f)
kind_of scope (choice c e f) = wider (kind_of scope e) (kind_of scope f)

-- a decimal of at most three places, whose numerator at three places is within the limit
abbrev pub has_few_places : Decimal → Bool
has_few_places d = is_kept_at factor_places d

-- a literal that may go to a `double` or be compared with one: an `int`, or a literal with a point of at most three places
abbrev pub is_factor_literal : Term → Bool
is_factor_literal (leaf (whole i)) = true
is_factor_literal (leaf (point d)) = has_few_places d
is_factor_literal _ = false

-- `IsPlainDivisor` as a test: a whole number, at least 1, that divides 10^30
abbrev pub is_plain_number : ℤ → Bool
is_plain_number (pos n) = nat_lt 0 n && ((10 ^ most_places) % n == 0)
is_plain_number (negsuc n) = false

-- a decimal without places is a plain divisor
abbrev pub is_plain_divisor : Decimal → Bool
is_plain_divisor d = (scale_of d == 0) && is_plain_number (numerator_of d)

-- the decimal of a declared literal, where it is one
abbrev pub literal_big : DeclaredLiteral → Option Decimal
literal_big (declared_big d) = Some d
literal_big _ = None

-- the decimal that a declaration writes
abbrev pub written_decimal : Declaration → Option Decimal
written_decimal d = option_and_then literal_big d.value

-- the decimal of an `int` literal
abbrev pub int_literal : Term → Option Decimal
int_literal (leaf (whole i)) = Some (decimal i 0)
int_literal _ = None

-- the divisor of divide(d) that the text shows: a constant's decimal, or an `int` literal as one
abbrev pub shown_divisor : Scope → Term → Option Decimal
shown_divisor scope (leaf (named x)) = option_and_then written_decimal (declared_as scope.constants x)
shown_divisor scope (leaf (known k)) = Some (known_value k)
shown_divisor scope (one value_of e) = int_literal e
shown_divisor scope (one new_big e) = int_literal e
shown_divisor scope _ = None

-- the text shows a divisor, and it is a plain one
abbrev pub shows_plain_divisor : Scope → Term → Bool
shows_plain_divisor scope d = option_map_or is_plain_divisor (shown_divisor scope d) false

-- BigDecimal.valueOf takes a term of this kind
abbrev pub is_convertible : NodeKind → Bool
is_convertible k = is_whole k || (is_factor k || is_fraction k)

-- whether an operation on one operand takes a term of this kind
abbrev pub takes_one : One → NodeKind → Bool
takes_one (unary Minus) k = is_whole k
takes_one (unary Not) k = is_truth k
takes_one (unary Negate) k = is_big k
takes_one (unary Abs) k = is_big k
takes_one value_of k = is_convertible k
takes_one (value_of_scaled s) k = is_whole k
takes_one new_big k = is_whole k
takes_one (set_scale s m) k = is_big k

-- Two terms may be compared: whole numbers with whole numbers, and the name of a `double` with a literal.
abbrev pub are_comparable : Term → NodeKind → Term → NodeKind → Bool
are_comparable e j f k =
    (is_whole j && is_whole k) || (is_factor j && is_factor_literal f) || (is_factor_literal e && is_factor k)

-- whether an operator takes the operands e and f of the kinds j and k
abbrev pub takes_operator : Binary → Term → NodeKind → Term → NodeKind → Bool
takes_operator binaries.And e j f k = is_truth j && is_truth k
takes_operator binaries.Or e j f k = is_truth j && is_truth k
takes_operator binaries.Mul e j f k = is_whole j && is_whole k
takes_operator binaries.Div e j f k = is_whole j && is_whole k
takes_operator binaries.Rem e j f k = is_whole j && is_whole k
takes_operator binaries.Plus e j f k = is_whole j && is_whole k
takes_operator binaries.Sub e j f k = is_whole j && is_whole k
takes_operator _ e j f k = are_comparable e j f k

-- whether an operation on two operands takes these; divide(d) takes only a plain divisor that the text shows
abbrev pub takes_two : Scope → Two → Term → NodeKind → Term → NodeKind → Bool
takes_two scope (operator o) e j f k = takes_operator o e j f k
takes_two scope (method calls.DivideExact) e j f k = is_big j && (is_big k && shows_plain_divisor scope f)
takes_two scope (method m) e j f k = is_big j && is_big k
takes_two scope (divide s m) e j f k = is_big j && is_big k

-- the parts of a conditional: both decimals, or both whole numbers
abbrev pub are_parts : NodeKind → NodeKind → Bool
are_parts j k = (is_big j && is_big k) || (is_whole j && is_whole k)

-- whether a variable of a kind may get the value of an expression
abbrev pub suits : DeclaredKind → Term → NodeKind → Bool
suits declares.Int e k = is_int k
suits declares.Long e k = is_whole k
suits declares.Big e k = is_big k
suits declares.Factor e k = is_factor_literal e
suits declares.Table e k = false
