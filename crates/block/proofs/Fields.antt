-- The fields of a word that was made of them, and the word made of its own fields.
use borrow.Author.Tests.{lt-ltb, le-ltb}
use mathlib.Core.Path.{◌≡◌, refl, ◌∙◌, ap}
use Prim.Native.Nat.{ℕ, suc, ◌+◌, ◌-◌, ◌^◌, ◌<◌}
use native.Mathlib.Decide.{dec_lt}
use native.Mathlib.Omega.{arith}
use lib.IntN.{ℤ, pos, negsuc}
use Rattle.integer.specs.Within.{Within}
use Rattle.block.specs.Fields.{kind, rest, word_of, knot_count, edition, header_spare, header_word, position, grade, knot_spare, knot_word, payload}
use Rattle.block.specs.Fields.{twos_complement, coefficient_word, words_before, end_word, reading_mark, reading, reading_spare, reading_word}

kind_of : (k r : ℕ) → r < 2 ^ 30 → kind (word_of k r) ≡ k
kind_of k r h = omega arith

rest_of : (k r : ℕ) → r < 2 ^ 30 → rest (word_of k r) ≡ r
rest_of k r h = omega arith

-- a word is its kind and its rest
word_again : (w k : ℕ) → kind w ≡ k → word_of k (rest w) ≡ w
word_again w k e = omega arith

-- header
pub header-count : (n e : ℕ) → n < 2 ^ 8 → knot_count (header_word n e) ≡ n
header-count n e h = omega arith

pub header-edition : (n e : ℕ) → n < 2 ^ 8 → e < 2 ^ 8 → edition (header_word n e) ≡ e
header-edition n e h f = omega arith

pub header_spare_lem : (n e : ℕ) → n < 2 ^ 8 → e < 2 ^ 8 → header_spare (header_word n e) ≡ 0
header_spare_lem n e h f = omega arith

pub header-kind : (n e : ℕ) → n < 2 ^ 8 → e < 2 ^ 8 → kind (header_word n e) ≡ 0
header-kind n e h f = omega arith

pub header-again : (w : ℕ) → kind w ≡ 0 → header_spare w ≡ 0 → header_word (knot_count w) (edition w) ≡ w
header-again w k s = omega arith

-- knot
pub knot-kind : (x m : ℕ) → x < 2 ^ 16 → m < 2 ^ 3 → kind (knot_word x m) ≡ 1
knot-kind x m h g = omega arith

pub knot-position : (x m : ℕ) → x < 2 ^ 16 → position (knot_word x m) ≡ x
knot-position x m h = omega arith

pub knot-grade : (x m : ℕ) → x < 2 ^ 16 → m < 2 ^ 3 → grade (knot_word x m) ≡ m
knot-grade x m h g = omega arith

pub knot_spare_lem : (x m : ℕ) → x < 2 ^ 16 → m < 2 ^ 3 → knot_spare (knot_word x m) ≡ 0
knot_spare_lem x m h g = omega arith

pub knot-again : (w : ℕ) → kind w ≡ 1 → knot_spare w ≡ 0 → knot_word (position w) (grade w) ≡ w
knot-again w k s = omega arith

-- coefficient: every number of at most 2^28 comes back, and every word does
pub twos_below : (c : ℤ) → twos_complement c < 2 ^ 30
twos_below (pos n) = omega arith
twos_below (negsuc n) = omega arith

pub coefficient-kind : (c : ℤ) → kind (coefficient_word c) ≡ 2
coefficient-kind c = kind_of 2 (twos_complement c) (twos_below c)

-- a rest below 2^29 is the number, any other stands for a number below 0
payload-low : (w n : ℕ) → rest w ≡ n → n < 2 ^ 29 → payload w ≡ pos n
payload-low w n e h = rw (e, lt-ltb n (2 ^ 29) h) refl

payload-high : (w n : ℕ) → rest w + suc n ≡ 2 ^ 30 → n < 2 ^ 29 → payload w ≡ negsuc n
payload-high w n e h = rw (le-ltb (rest w) (2 ^ 29) (omega arith), lt-ltb (rest w) (2 ^ 30) (omega arith)) (ap negsuc (omega arith))

pub coefficient-payload : (c : ℤ) → Within (2 ^ 28) c → payload (coefficient_word c) ≡ c
coefficient-payload (pos n) h = payload-low (coefficient_word (pos n)) n (omega (arith, h.hi)) (omega (arith, h.hi))
coefficient-payload (negsuc n) h = payload-high (coefficient_word (negsuc n)) n (omega (arith, h.lo)) (omega (arith, h.lo))

pub coefficient-again : (w : ℕ) → kind w ≡ 2 → coefficient_word (payload w) ≡ w
coefficient-again w k = go (dec_lt (rest w) (2 ^ 29))
  where
    go : Dec (rest w < 2 ^ 29) → coefficient_word (payload w) ≡ w
    go (yes h) = let e : coefficient_word (pos (rest w)) ≡ w = omega arith in ap coefficient_word (payload-low w (rest w) refl h) ∙ e
    go (no h) =
        let n = 2 ^ 30 - suc (rest w) in
        let e : coefficient_word (negsuc n) ≡ w = omega arith in
        ap coefficient_word (payload-high w n (omega arith) (omega arith)) ∙ e

-- end
pub end-kind : (n : ℕ) → n < 2 ^ 30 → kind (end_word n) ≡ 3
end-kind n h = kind_of 3 n h

pub end_before : (n : ℕ) → n < 2 ^ 30 → words_before (end_word n) ≡ n
end_before n h = rest_of 3 n h

pub end-again : (w : ℕ) → kind w ≡ 3 → end_word (words_before w) ≡ w
end-again w k = word_again w 3 k

-- it is no reading: bit 29 is not set
pub end_mark : (n : ℕ) → n < 2 ^ 29 → reading_mark (end_word n) ≡ 0
end_mark n h = omega arith

-- reading
pub reading-kind : (x : ℕ) → x < 2 ^ 16 → kind (reading_word x) ≡ 3
reading-kind x h = omega arith

pub reading-mark : (x : ℕ) → x < 2 ^ 16 → reading_mark (reading_word x) ≡ 1
reading-mark x h = omega arith

pub reading_spare_lem : (x : ℕ) → x < 2 ^ 16 → reading_spare (reading_word x) ≡ 0
reading_spare_lem x h = omega arith

pub reading-value : (x : ℕ) → x < 2 ^ 16 → reading (reading_word x) ≡ x
reading-value x h = omega arith

pub reading-again : (w : ℕ) → kind w ≡ 3 → reading_mark w ≡ 1 → reading_spare w ≡ 0 → reading_word (reading w) ≡ w
reading-again w k m s = omega arith
