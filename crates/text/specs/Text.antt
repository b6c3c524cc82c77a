-- Numbers and bytes as text, in ASCII.
use Rattle.std.specs.Prelude.{cond, List, [], ◌∷◌, ◌++◌, ◌≡◌, ℕ, zero, suc, ◌+◌, ◌/◌, ◌%◌, ltb, ℤ, pos, negsuc, length}
use Rattle.std.proofs.lemmas.List.Edits.{sets}

-- the decimal digits of n, the most significant first, in at most as many rounds as the first number says
abbrev pub digits_by : ℕ → ℕ → List ℕ
digits_by zero n = []
digits_by (suc rounds) n = cond (ltb n 10) ((48 + n) ∷ []) (digits_by rounds (n / 10) ++ ((48 + n % 10) ∷ []))

-- n + 1 rounds are enough. No zero stands in front, and 0 is "0"
unfoldable pub decimal : ℕ → List ℕ
decimal n = digits_by (suc n) n

-- a minus before a number below 0
abbrev pub signed_decimal : ℤ → List ℕ
signed_decimal (pos n) = decimal n
signed_decimal (negsuc n) = 45 ∷ decimal (suc n)

-- the digit of a number below 16: 0 to 9, then a to f
abbrev pub hex_digit : ℕ → ℕ
hex_digit d = cond (ltb d 10) (48 + d) (87 + d)

-- two digits for each byte, the high half first
abbrev pub hex_text : List ℕ → List ℕ
hex_text [] = []
hex_text (b ∷ bs) = hex_digit (b / 16) ∷ hex_digit (b % 16) ∷ hex_text bs

-- what a function that writes leaves: the text from place `at` on in what stood there before, with the place r behind
-- it
pub record Put (before : List ℕ) (at : ℕ) (text : List ℕ) (r : ℕ) (after : List ℕ) : Type 0 where
  pub next : r ≡ at + length text
  pub holds : after ≡ sets before at text
