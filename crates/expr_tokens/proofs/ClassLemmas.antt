-- What the text of a token begins with.
use Rattle.std.proofs.Common.{◌≡◌, ℕ, ◌<◌, Bool, true, false, ◌&&◌, ◌||◌, List, [], ◌∷◌, ◌++◌, length, refl, sym, ap, subst, ◌∙◌, arith}
use Rattle.std.specs.Prelude.{codes, ◌==◌}
use Rattle.std.specs.List.{list_all}
use Rattle.std.specs.Char.{digit_value, is_ascii_digit}
use Rattle.std.specs.Str.Parse.{AllDigits}
use Rattle.std.proofs.lemmas.Bool.{and_parts}
use Rattle.std.proofs.lemmas.Bool.Decides.{nat_tests}
use Rattle.scaled_decimal.specs.Decimals.{Decimal}
use Rattle.pap_tree.specs.Names.{is_letter}
use Rattle.pap_tree.specs.White.{is_white}
use Rattle.pap_tree.specs.Words.{operator_text}
use Rattle.pap_tree.specs.declared.expression.Binary.{Binary}
use Rattle.pap_tree.specs.declared.expression.Binary.TheVariants.{Mul, Div, Rem, Plus, Sub, Less, LessEq, More, MoreEq, Same, Differs, And, Or}
use Rattle.pap_tree.specs.Tokens.{Sign, Equals, Bang, Question, Colon, Dot, Comma, Semicolon, Open, Close, OpenItem, CloseItem, OpenTable, CloseTable, sign_text, Token, Literal, Quoted, Beyond, Word, Operator, Mark, Alien, int, long, point, is_word_text, IsNumeral, IsLong, IsPoint, IsQuoted, IsBeyondRange, great_int, great_long, great_point, great_quoted, IsToken}
use Rattle.expr_tokens.specs.private.Views.{First, Stops, is_sign_byte}

-- the texts of numbers
pub data IsNumberText : List ℕ → Type 0 where
  whole : {text : List ℕ} (n : ℕ) → IsNumeral text n → IsNumberText text
  whole_long : {text : List ℕ} (n : ℕ) → IsLong text n → IsNumberText text
  with_places : {text : List ℕ} (d : Decimal) → IsPoint text d → IsNumberText text

-- the texts of operators and signs
pub data IsSignText : List ℕ → Type 0 where
  operator : {text : List ℕ} (o : Binary) → text ≡ operator_text o → IsSignText text
  sign : {text : List ℕ} (s : Sign) → text ≡ sign_text s → IsSignText text

pub data Class : List ℕ → Type 0 where
  number : {text : List ℕ} → IsNumberText text → Class text
  string : {text : List ℕ} (d : Decimal) → IsQuoted text d → Class text
  word : {text : List ℕ} → is_word_text text ≡ true → Class text
  a_sign : {text : List ℕ} → IsSignText text → Class text

class_beyond : (text : List ℕ) → IsBeyondRange text → Class text
class_beyond text (great_int n h g) = number (whole n h)
class_beyond text (great_long n h g) = number (whole_long n h)
class_beyond text (great_point d h g) = number (with_places d h)
class_beyond text (great_quoted d h g) = string d h

pub class : (text : List ℕ) (t : Token) → IsToken text t → Class text
class text (Literal (int n)) h = number (whole n h.0)
class text (Literal (long n)) h = number (whole_long n h.0)
class text (Literal (point d)) h = number (with_places d h.0)
class text (Quoted d) h = string d h.0
class text Beyond h = class_beyond text h
class text (Word w) h = word h.0
class text (Operator o) h = a_sign (operator o h)
class text (Mark s) h = a_sign (sign s h)
class text Alien h = absurd h

-- ---- the classes of first bytes

pub digit_is : (b : ℕ) → digit_value b < 10 → is_ascii_digit b ≡ true
digit_is b h = grind (arith, nat_tests)

pub digit_low : (b : ℕ) → is_ascii_digit b ≡ true → digit_value b < 10
digit_low b h = grind (arith, nat_tests)

pub digit_no_letter : (b : ℕ) → is_ascii_digit b ≡ true → is_letter b ≡ true → ⊥
digit_no_letter b h k = grind (arith, nat_tests)

pub digit_no_sign : (b : ℕ) → is_ascii_digit b ≡ true → is_sign_byte b ≡ true → ⊥
digit_no_sign b h k = grind (arith, nat_tests)

pub letter_no_sign : (b : ℕ) → is_letter b ≡ true → is_sign_byte b ≡ true → ⊥
letter_no_sign b h k = grind (arith, nat_tests)

pub all_digits : (bs : List ℕ) → AllDigits 10 bs → list_all is_ascii_digit bs ≡ true
all_digits [] h = refl
all_digits (b ∷ bs) h = ap (λ t. t && list_all is_ascii_digit bs) (digit_is b h.0) ∙ all_digits bs h.1

pub digits_all : (bs : List ℕ) → list_all is_ascii_digit bs ≡ true → AllDigits 10 bs
digits_all [] h = tt
digits_all (b ∷ bs) h = let parts = and_parts (is_ascii_digit b) (list_all is_ascii_digit bs) h in (digit_low b parts.0, digits_all bs parts.1)

numeral_first : (text more : List ℕ) (n : ℕ) → IsNumeral text n → First is_ascii_digit (text ++ more)
numeral_first [] more n h = let some = h.some in absurd (omega arith)
numeral_first (b ∷ bs) more n h = digit_is b h.digits.0

pub number_first : (text : List ℕ) → IsNumberText text → First is_ascii_digit text
number_first [] (whole n h) = let some = h.some in absurd (omega arith)
number_first (b ∷ bs) (whole n h) = digit_is b h.digits.0
number_first text (whole_long n h) = subst (First is_ascii_digit) (sym h.1) (numeral_first h.0 (codes "L") n h.2)
number_first text (with_places d h) = subst (First is_ascii_digit) (sym h.parts) (numeral_first h.front (codes "." ++ h.places) h.whole h.numeral)

pub word_first : (text : List ℕ) → is_word_text text ≡ true → First is_letter text
word_first [] h = absurd cc
word_first (b ∷ bs) h = grind (arith, nat_tests)

abbrev pub is_quote : ℕ → Bool
is_quote b = b == 34

pub string_first : (text : List ℕ) (d : Decimal) → IsQuoted text d → First is_quote text
string_first text d h = subst (First is_quote) (sym h.1) refl

-- a byte that is an operator or sign
abbrev pub is_single : ℕ → Bool
is_single b =
    (b == 42) || (b == 47) || (b == 37) || (b == 43) || (b == 45) || (b == 60) || (b == 62) || (b == 61) || (b == 33) || (b == 63)
    || (b == 58) || (b == 46) || (b == 44) || (b == 59) || (b == 40) || (b == 41) || (b == 91) || (b == 93) || (b == 123) || (b == 125)

-- the text of an operator or sign: one byte, or an operator of two
pub data Spelling : List ℕ → Type 0 where
  one : {text : List ℕ} (b : ℕ) → text ≡ b ∷ [] → is_sign_byte b ≡ true → is_single b ≡ true → Spelling text
  two : {text : List ℕ} (a b : ℕ) (o : Binary) → text ≡ a ∷ b ∷ [] → is_sign_byte a ≡ true → operator_text o ≡ a ∷ b ∷ [] → Spelling text

pub spelling : (text : List ℕ) → IsSignText text → Spelling text
spelling text (operator Mul e) = one 42 e refl refl
spelling text (operator Div e) = one 47 e refl refl
spelling text (operator Rem e) = one 37 e refl refl
spelling text (operator Plus e) = one 43 e refl refl
spelling text (operator Sub e) = one 45 e refl refl
spelling text (operator Less e) = one 60 e refl refl
spelling text (operator LessEq e) = two 60 61 LessEq e refl refl
spelling text (operator More e) = one 62 e refl refl
spelling text (operator MoreEq e) = two 62 61 MoreEq e refl refl
spelling text (operator Same e) = two 61 61 Same e refl refl
spelling text (operator Differs e) = two 33 61 Differs e refl refl
spelling text (operator And e) = two 38 38 And e refl refl
spelling text (operator Or e) = two 124 124 Or e refl refl
spelling text (sign Equals e) = one 61 e refl refl
spelling text (sign Bang e) = one 33 e refl refl
spelling text (sign Question e) = one 63 e refl refl
spelling text (sign Colon e) = one 58 e refl refl
spelling text (sign Dot e) = one 46 e refl refl
spelling text (sign Comma e) = one 44 e refl refl
spelling text (sign Semicolon e) = one 59 e refl refl
spelling text (sign Open e) = one 40 e refl refl
spelling text (sign Close e) = one 41 e refl refl
spelling text (sign OpenItem e) = one 91 e refl refl
spelling text (sign CloseItem e) = one 93 e refl refl
spelling text (sign OpenTable e) = one 123 e refl refl
spelling text (sign CloseTable e) = one 125 e refl refl

sign_first : (text : List ℕ) → Spelling text → First is_sign_byte text
sign_first text (one b e h k) = subst (First is_sign_byte) (sym e) h
sign_first text (two a b o e h k) = subst (First is_sign_byte) (sym e) h

-- ---- what the first byte tells of a front

pub apart : (p q : ℕ → Bool) → ((b : ℕ) → p b ≡ true → q b ≡ true → ⊥) → (bytes u left : List ℕ) → First p bytes → bytes ≡ u ++ left → First q u → ⊥
apart p q differ bytes [] left h e k = absurd k
apart p q differ [] (b ∷ u) left h e k = absurd h
apart p q differ (c ∷ bytes) (b ∷ u) left h e k = let same : c ≡ b = cc in differ c h (ap q same ∙ k)

pub digit_no_quote : (b : ℕ) → is_ascii_digit b ≡ true → is_quote b ≡ true → ⊥
digit_no_quote b h k = grind (arith, nat_tests)

pub letter_no_quote : (b : ℕ) → is_letter b ≡ true → is_quote b ≡ true → ⊥
letter_no_quote b h k = grind (arith, nat_tests)

pub sign_no_quote : (b : ℕ) → is_sign_byte b ≡ true → is_quote b ≡ true → ⊥
sign_no_quote b h k = grind (arith, nat_tests)

pub only_number : (bytes u left : List ℕ) → First is_ascii_digit bytes → bytes ≡ u ++ left → Class u → IsNumberText u
only_number bytes u left f e (number h) = h
only_number bytes u left f e (string d h) = absurd (apart is_ascii_digit is_quote digit_no_quote bytes u left f e (string_first u d h))
only_number bytes u left f e (word h) = absurd (apart is_ascii_digit is_letter digit_no_letter bytes u left f e (word_first u h))
only_number bytes u left f e (a_sign h) = absurd (apart is_ascii_digit is_sign_byte digit_no_sign bytes u left f e (sign_first u (spelling u h)))

pub only_string : (bytes u left : List ℕ) → First is_quote bytes → bytes ≡ u ++ left → Class u → (d : Decimal) × IsQuoted u d
only_string bytes u left f e (number h) = absurd (apart is_quote is_ascii_digit (λ b h k. digit_no_quote b k h) bytes u left f e (number_first u h))
only_string bytes u left f e (string d h) = (d, h)
only_string bytes u left f e (word h) = absurd (apart is_quote is_letter (λ b h k. letter_no_quote b k h) bytes u left f e (word_first u h))
only_string bytes u left f e (a_sign h) = absurd (apart is_quote is_sign_byte (λ b h k. sign_no_quote b k h) bytes u left f e (sign_first u (spelling u h)))

pub only_word : (bytes u left : List ℕ) → First is_letter bytes → bytes ≡ u ++ left → Class u → is_word_text u ≡ true
only_word bytes u left f e (number h) = absurd (apart is_letter is_ascii_digit (λ b h k. digit_no_letter b k h) bytes u left f e (number_first u h))
only_word bytes u left f e (string d h) = absurd (apart is_letter is_quote letter_no_quote bytes u left f e (string_first u d h))
only_word bytes u left f e (word h) = h
only_word bytes u left f e (a_sign h) = absurd (apart is_letter is_sign_byte letter_no_sign bytes u left f e (sign_first u (spelling u h)))

pub only_sign : (bytes u left : List ℕ) → First is_sign_byte bytes → bytes ≡ u ++ left → Class u → Spelling u
only_sign bytes u left f e (number h) = absurd (apart is_sign_byte is_ascii_digit (λ b h k. digit_no_sign b k h) bytes u left f e (number_first u h))
only_sign bytes u left f e (string d h) = absurd (apart is_sign_byte is_quote sign_no_quote bytes u left f e (string_first u d h))
only_sign bytes u left f e (word h) = absurd (apart is_sign_byte is_letter (λ b h k. letter_no_sign b k h) bytes u left f e (word_first u h))
only_sign bytes u left f e (a_sign h) = spelling u h

first_some : (p : ℕ → Bool) (bytes : List ℕ) → First p bytes → 0 < length bytes
first_some p [] h = absurd h
first_some p (b ∷ bs) h = omega arith

-- a token has a byte
pub some_bytes : (text : List ℕ) → Class text → 0 < length text
some_bytes text (number h) = first_some is_ascii_digit text (number_first text h)
some_bytes text (string d h) = first_some is_quote text (string_first text d h)
some_bytes text (word h) = first_some is_letter text (word_first text h)
some_bytes text (a_sign h) = first_some is_sign_byte text (sign_first text (spelling text h))

digit_black : (b : ℕ) → is_ascii_digit b ≡ true → is_white b ≡ false
digit_black b h = grind (arith, nat_tests)

letter_black : (b : ℕ) → is_letter b ≡ true → is_white b ≡ false
letter_black b h = grind (arith, nat_tests)

quote_black : (b : ℕ) → is_quote b ≡ true → is_white b ≡ false
quote_black b h = grind (arith, nat_tests)

sign_black : (b : ℕ) → is_sign_byte b ≡ true → is_white b ≡ false
sign_black b h = grind (arith, nat_tests)

black : (p : ℕ → Bool) → ((b : ℕ) → p b ≡ true → is_white b ≡ false) → (text : List ℕ) → First p text → Stops is_white text
black p h [] f = absurd f
black p h (b ∷ bs) f = h b f

-- a token begins with no white space
pub class_black : (text : List ℕ) → Class text → Stops is_white text
class_black text (number h) = black is_ascii_digit digit_black text (number_first text h)
class_black text (string d h) = black is_quote quote_black text (string_first text d h)
class_black text (word h) = black is_letter letter_black text (word_first text h)
class_black text (a_sign h) = black is_sign_byte sign_black text (sign_first text (spelling text h))
