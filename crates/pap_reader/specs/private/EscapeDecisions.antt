-- What the word of an escape stands for, found from its beginning.
use Rattle.std.specs.Prelude.{ℕ, Bool, ◌&&◌, ◌==◌, nat_le, Option, Some, None, List, [], ◌∷◌, codes, if◌then◌else◌}
use Rattle.std.specs.Char.{is_digit}
use Rattle.std.specs.List.{list_all}
use Rattle.std.specs.Str.{bytes_eq}
use Rattle.std.specs.Str.Parse.{digits_value}

-- whether these are digits of a radix that write a code from 1 to 127; none would write 0
abbrev pub writes_code : ℕ → List ℕ → Bool
writes_code radix digits =
    list_all (λ b. is_digit b radix) digits
    && (nat_le 1 (digits_value radix digits) && nat_le (digits_value radix digits) 127)

-- the code that they write, where they do
abbrev pub code_of : ℕ → List ℕ → Option ℕ
code_of radix digits = if writes_code radix digits then Some (digits_value radix digits) else None

-- after the `#`: digits, or `x` and hexadecimal digits
abbrev pub byte_numbered : List ℕ → Option ℕ
byte_numbered [] = None
byte_numbered (b ∷ digits) = if b == 120 then code_of 16 digits else code_of 10 (b ∷ digits)

-- a `#` and what stands after it
abbrev pub after_hash : List ℕ → Option ℕ
after_hash [] = None
after_hash (b ∷ word) = if b == 35 then byte_numbered word else None

-- the byte that an escape's word stands for
abbrev pub byte_named : List ℕ → Option ℕ
byte_named w =
    if bytes_eq w (codes "lt") then Some 60 else
    (if bytes_eq w (codes "gt") then Some 62 else
    (if bytes_eq w (codes "amp") then Some 38 else
    (if bytes_eq w (codes "quot") then Some 34 else
    (if bytes_eq w (codes "apos") then Some 39 else after_hash w))))
