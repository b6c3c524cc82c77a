-- The table of integral weights: all its 512 entries are those of the recurrence, by one computed test.
use borrow.Author.Tests.{eqb-true}
use mathlib.Core.Bool.{Bool, true, ◌&&◌}
use mathlib.Core.List.{List, [], ◌∷◌}
use mathlib.Core.Path.{◌≡◌, refl, sym, ◌∙◌, ap}
use Prim.Native.Nat.{ℕ, zero, suc, ◌+◌, ◌*◌, ◌/◌, ◌%◌, ◌≤◌, ◌<◌}
use native.Mathlib.Nat.{add-zero, zero-add, le_of_suc-le-suc}
use native.Mathlib.Omega.{arith}
use lib.Dec.{eqb}
use lib.ListN.{length, get_or}
use Rattle.integer.proofs.Tests.{both_first, both-second}
use Rattle.hermite.specs.Water.{c}
use Rattle.hermite.proofs.Water.{zero_above}
use Rattle.water.specs.Machine.{IntegralWeights}

-- the entries of t are f_i, f_(i+1) and so on, by a test of the whole table, one entry after the other
abbrev pub entries-are : (ℕ → ℕ) → ℕ → List ℕ → Bool
entries-are f i [] = true
entries-are f i (x ∷ t) = eqb x (f i) && entries-are f (suc i) t

entry-from : (f : ℕ → ℕ) (i : ℕ) (t : List ℕ) → entries-are f i t ≡ true → (j : ℕ) → j < length t → get_or t j 0 ≡ f (i + j)
entry-from f i [] h j b = absurd (omega arith)
entry-from f i (x ∷ t) h zero b = eqb-true x (f i) (both_first (eqb x (f i)) (entries-are f (suc i) t) h) ∙ ap f (sym (add-zero i))
entry-from f i (x ∷ t) h (suc j) b = entry-from f (suc i) t (both-second (eqb x (f i)) (entries-are f (suc i) t) h) j (le_of_suc-le-suc b) ∙ ap f (omega arith)

entry_is : (f : ℕ → ℕ) (t : List ℕ) → entries-are f 0 t ≡ true → (j : ℕ) → j < length t → get_or t j 0 ≡ f j
entry_is f t h j b = entry-from f 0 t h j b ∙ ap f (zero-add j)

-- the entry at 64 m + 8 n + j is c_j for the grades m and n
abbrev pub weight_at : ℕ → ℕ
weight_at k = c (k / 64) (k / 8 % 8) (k % 8)

pub by_test : (t : List ℕ) → entries-are weight_at 0 t ≡ true → length t ≡ 512 → IntegralWeights t
by_test t right all = record { count = all; entry = entry; above = λ m n j hm hn hj h. entry m n j hm hn hj ∙ zero_above m n j h }
  where
    entry : (m n j : ℕ) → m ≤ 7 → n ≤ 7 → j ≤ 7 → get_or t (64 * m + 8 * n + j) 0 ≡ c m n j
    entry m n j hm hn hj =
        let a : (64 * m + 8 * n + j) / 64 ≡ m = omega arith in
        let b : (64 * m + 8 * n + j) / 8 % 8 ≡ n = omega arith in
        let d : (64 * m + 8 * n + j) % 8 ≡ j = omega arith in
        entry_is weight_at t right (64 * m + 8 * n + j) (omega (arith, all)) ∙ rw (a, b, d) refl
