-- Document 01, "Block", and request 1/14: the fields of a word of 32 bits, bit 0 lowest, and the words made of them.
use Rattle.std.specs.Prelude.{cond, ℕ, ◌+◌, ◌-◌, ◌*◌, ◌/◌, ◌%◌, ◌^◌, ltb, ℤ, pos, negsuc, ◌-ℤ◌}

-- the top two bits of a word are its kind; the other 30 bits
abbrev pub kind : ℕ → ℕ
kind w = w / 2 ^ 30

abbrev pub rest : ℕ → ℕ
rest w = w % 2 ^ 30

abbrev pub word_of : ℕ → ℕ → ℕ
word_of k r = r + 2 ^ 30 * k

-- header, kind 0: bits 0 to 7 the knot count, bits 8 to 15 the edition; the rest 0
abbrev pub knot_count : ℕ → ℕ
knot_count w = w % 2 ^ 8

abbrev pub edition : ℕ → ℕ
edition w = w / 2 ^ 8 % 2 ^ 8

abbrev pub header_spare : ℕ → ℕ
header_spare w = rest w / 2 ^ 16

abbrev pub header_word : ℕ → ℕ → ℕ
header_word n e = word_of 0 (n + 2 ^ 8 * e)

-- knot, kind 1: bits 0 to 15 position, 16 to 18 grade; the rest 0
abbrev pub position : ℕ → ℕ
position w = w % 2 ^ 16

abbrev pub grade : ℕ → ℕ
grade w = w / 2 ^ 16 % 2 ^ 3

abbrev pub knot_spare : ℕ → ℕ
knot_spare w = rest w / 2 ^ 19

abbrev pub knot_word : ℕ → ℕ → ℕ
knot_word x m = word_of 1 (x + 2 ^ 16 * m)

-- coefficient, kind 2: two's complement of 30 bits
abbrev pub payload : ℕ → ℤ
payload w = cond (ltb (rest w) (2 ^ 29)) (pos (rest w)) (pos (rest w) -ℤ pos (2 ^ 30))

abbrev pub twos_complement : ℤ → ℕ
twos_complement (pos n) = n % 2 ^ 30
twos_complement (negsuc n) = 2 ^ 30 - 1 - n % 2 ^ 30

abbrev pub coefficient_word : ℤ → ℕ
coefficient_word c = word_of 2 (twos_complement c)

-- end, kind 3: the number of words before it
abbrev pub words_before : ℕ → ℕ
words_before w = rest w

abbrev pub end_word : ℕ → ℕ
end_word n = word_of 3 n

-- request 1/14, reading, kind 3 with bit 29 set: bits 0 to 15 the reading; the rest, bits 16 to 28, 0
abbrev pub reading_mark : ℕ → ℕ
reading_mark w = rest w / 2 ^ 29

abbrev pub reading : ℕ → ℕ
reading w = w % 2 ^ 16

abbrev pub reading_spare : ℕ → ℕ
reading_spare w = w % 2 ^ 29 / 2 ^ 16

abbrev pub reading_word : ℕ → ℕ
reading_word x = word_of 3 (x + 2 ^ 29)
