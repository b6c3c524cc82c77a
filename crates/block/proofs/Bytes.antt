-- Words as bytes and back: nothing is lost either way.
use mathlib.Core.List.{List, [], ◌∷◌, ◌++◌}
use mathlib.Core.Path.{◌≡◌, refl, sym, ◌∙◌, ap, ap₂}
use Prim.Native.Nat.{ℕ, zero, suc, ◌+◌, ◌*◌, ◌/◌, ◌%◌, ◌^◌, ◌<◌}
use native.Mathlib.Nat.{div-add-mod'}
use native.Mathlib.Omega.{arith}
use lib.ListN.{length, get_or}
use lib.Seq.{sets}
use Rattle.integer.proofs.Stores.{sets_sets}
use Rattle.block.specs.Bytes.{joined, bytes_of, words, bytes, Below}

pub below_both : (b : ℕ) (us vs : List ℕ) → Below b us → Below b vs → Below b (us ++ vs)
below_both b [] vs p q = q
below_both b (u ∷ us) vs p q = (p.0, below_both b us vs p.1 q)

pub below_all : (b : ℕ) (us : List ℕ) → ((i : ℕ) → get_or us i 0 < b) → Below b us
below_all b [] small = tt
below_all b (u ∷ us) small = (small zero, below_all b us (λ i. small (suc i)))

-- one word of its four bytes, and the bytes of one word
joined-again : (w : ℕ) → w < 2 ^ 32 → joined (w % 2 ^ 8) (w / 2 ^ 8 % 2 ^ 8) (w / 2 ^ 16 % 2 ^ 8) (w / 2 ^ 24 % 2 ^ 8) ≡ w
joined-again w h =
    let last : w / 2 ^ 24 % 2 ^ 8 ≡ w / 2 ^ 24 = omega arith in
    omega (arith, div-add-mod' (w / 2 ^ 8) (2 ^ 8), div-add-mod' (w / 2 ^ 16) (2 ^ 8))

module _ (a b c d : ℕ) (ha : a < 2 ^ 8) (hb : b < 2 ^ 8) (hc : c < 2 ^ 8) (hd : d < 2 ^ 8) where
  first : joined a b c d % 2 ^ 8 ≡ a
  first = omega arith

  second : joined a b c d / 2 ^ 8 % 2 ^ 8 ≡ b
  second = omega arith

  third : joined a b c d / 2 ^ 16 % 2 ^ 8 ≡ c
  third = omega arith

  fourth : joined a b c d / 2 ^ 24 % 2 ^ 8 ≡ d
  fourth = omega arith

  split-again : bytes_of (joined a b c d) ≡ a ∷ b ∷ c ∷ d ∷ []
  split-again = rw (first, second, third, fourth) refl

pub words-again : (ws : List ℕ) → Below (2 ^ 32) ws → words (bytes ws) ≡ ws
words-again [] h = refl
words-again (w ∷ ws) (h, hs) = ap₂ (λ x xs. x ∷ xs) (joined-again w h) (words-again ws hs)

pub bytes-again : (bs : List ℕ) → length bs % 4 ≡ 0 → Below (2 ^ 8) bs → bytes (words bs) ≡ bs
bytes-again [] e h = refl
bytes-again (a ∷ []) e h = absurd (omega arith)
bytes-again (a ∷ b ∷ []) e h = absurd (omega arith)
bytes-again (a ∷ b ∷ c ∷ []) e h = absurd (omega arith)
bytes-again (a ∷ b ∷ c ∷ d ∷ bs) e (ha, (hb, (hc, (hd, hs)))) =
    ap₂ (λ x y. x ++ y) (split-again a b c d ha hb hc hd) (bytes-again bs (omega arith) hs)

pub length-bytes : (ws : List ℕ) → length (bytes ws) ≡ 4 * length ws
length-bytes [] = refl
length-bytes (w ∷ ws) = omega (arith, length-bytes ws)

pub bytes-append : (ws us : List ℕ) → bytes (ws ++ us) ≡ bytes ws ++ bytes us
bytes-append [] us = refl
bytes-append (w ∷ ws) us = ap (λ l. bytes_of w ++ l) (bytes-append ws us)

pub length-words : (bs : List ℕ) → length (words bs) ≡ length bs / 4
length-words [] = refl
length-words (a ∷ []) = refl
length-words (a ∷ b ∷ []) = refl
length-words (a ∷ b ∷ c ∷ []) = refl
length-words (a ∷ b ∷ c ∷ d ∷ bs) = omega (arith, length-words bs)

-- what stands four places on
past_four : (a b c d : ℕ) (bs : List ℕ) (m n : ℕ) → m ≡ suc (suc (suc (suc n))) → get_or (a ∷ b ∷ c ∷ d ∷ bs) m 0 ≡ get_or bs n 0
past_four a b c d bs m n e = rw e refl

pub word_at : (bs : List ℕ) (k : ℕ) → k < length bs / 4 → get_or (words bs) k 0 ≡ joined (get_or bs (4 * k) 0) (get_or bs (4 * k + 1) 0)
    (get_or bs (4 * k + 2) 0) (get_or bs (4 * k + 3) 0)
word_at [] k h = absurd (omega arith)
word_at (a ∷ []) k h = absurd (omega arith)
word_at (a ∷ b ∷ []) k h = absurd (omega arith)
word_at (a ∷ b ∷ c ∷ []) k h = absurd (omega arith)
word_at (a ∷ b ∷ c ∷ d ∷ bs) zero h = refl
word_at (a ∷ b ∷ c ∷ d ∷ bs) (suc k) h =
    let past = past_four a b c d bs in
    rw (
      past (4 * suc k) (4 * k) (omega arith),
      past (4 * suc k + 1) (4 * k + 1) (omega arith),
      past (4 * suc k + 2) (4 * k + 2) (omega arith),
      past (4 * suc k + 3) (4 * k + 3) (omega arith),
    )
    (word_at bs k (omega arith))

-- words stored behind one another
pub words_stored : (l : List ℕ) (a : ℕ) (us vs : List ℕ) → sets l (4 * a) (bytes (us ++ vs)) ≡ sets (sets l (4 * a) (bytes us)) (4 * (a + length us)) (bytes vs)
words_stored l a us vs =
    let there : 4 * a + length (bytes us) ≡ 4 * (a + length us) = omega (arith, length-bytes us) in
    ap (sets l (4 * a)) (bytes-append us vs) ∙ sym (sets_sets l (4 * a) (bytes us) (bytes vs)) ∙ ap (λ n. sets (sets l (4 * a) (bytes us)) n (bytes vs)) there
