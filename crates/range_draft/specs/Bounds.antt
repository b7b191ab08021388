-- The widest range that makes sense for an input, by its type. Source: the bounds of int and long are those of The Java
-- Language Specification, 4.2.1.
use Rattle.std.specs.Prelude.{ℕ, List, codes}
use Rattle.pap_tree.specs.declared.declaration.Kind.{Kind}
use Rattle.pap_tree.specs.declared.declaration.Kind.TheVariants.{Int, Long, Factor}

-- the least_of_kind value, as a range file spells it: -2^31 of an int and -2^63 of a long; more than minus a million million of an
-- amount, and more than minus a million of a factor
abbrev pub least_of_kind : Kind → List ℕ
least_of_kind Int = codes "-2147483648"
least_of_kind Long = codes "-9223372036854775808"
least_of_kind Factor = codes "\"-999999.999\""
least_of_kind _ = codes "\"-999999999999.99\""

-- the greatest_of_kind value, as a range file spells it: 2^31 - 1 of an int and 2^63 - 1 of a long; less than a million million
-- of an amount, and less than a million of a factor
abbrev pub greatest_of_kind : Kind → List ℕ
greatest_of_kind Int = codes "2147483647"
greatest_of_kind Long = codes "9223372036854775807"
greatest_of_kind Factor = codes "\"999999.999\""
greatest_of_kind _ = codes "\"999999999999.99\""

-- the most digits after the point, by the input's type
abbrev pub places_of_kind : Kind → ℕ
places_of_kind Int = 0
places_of_kind Long = 0
places_of_kind Factor = 3
places_of_kind _ = 2

-- what to narrow, by the input's type
abbrev pub advice : Kind → List ℕ
advice Int = codes "int: narrow low and high to the values that occur"
advice Long = codes "long: narrow low and high to the values that occur"
advice Factor = codes "double: narrow low and high to the factors that occur"
advice _ = codes "BigDecimal: narrow low and high, and places to 0 for whole cents or euros"
