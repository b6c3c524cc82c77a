-- Arrays of weights: replaced from the front by a loop, one entry a turn; and how large their entries are.
use mathlib.Core.Path.{◌≡◌, refl, sym, ◌∙◌}
use mathlib.Core.List.{List}
use Prim.Native.Nat.{ℕ, ◌+◌, ◌*◌, ◌≤◌, ◌<◌}
use native.Mathlib.Decide.{dec_lt, ℕ_discrete}
use native.Mathlib.Omega.{arith}
use lib.IntN.{ℤ, pos, *ℤ-zero}
use lib.ListN.{length, set, length-set, get_or-replicate, get_or-eq_default}
use lib.Seq.{get_or-set_same, get_or-set_other}
use Rattle.integer.specs.Within.{Within}
use Rattle.integer.proofs.Within.{within-natural, within_more}
use Rattle.hermite.specs.Polynomial.{coefficient}
use Rattle.hermite.specs.Slope.{primed}
use Rattle.rounding.proofs.Bounds.{primed-within}
use Rattle.knot_weights.specs.Machine.{Lists, Weights, zeros}

-- of an array that held v, w holds f below k, and from k on still v
pub record Replaced (w : List ℤ) (v f : ℕ → ℤ) (k : ℕ) : Type 0 where
  pub count : 8 ≡ length w
  pub done : (j : ℕ) → j < k → coefficient w j ≡ f j
  pub left : (j : ℕ) → k ≤ j → j ≤ 7 → coefficient w j ≡ v j

pub replaced_zeros : (f : ℕ → ℤ) → Replaced zeros (λ j. pos 0) f 0
replaced_zeros f = record { count = refl; done = λ j h. absurd (omega arith); left = λ j h b. get_or-replicate 8 j (pos 0) (pos 0) (omega arith) }

pub replaced_more : {w : List ℤ} {v f : ℕ → ℤ} {k : ℕ} (x : ℤ) → Replaced w v f k → k ≤ 7 → x ≡ f k → Replaced (set w k x) v f (k + 1)
replaced_more {w} {v} {f} {k} x replaced h e = record {
  count = replaced.count ∙ sym (length-set w k x);
  done = λ j b. go j b (ℕ_discrete j k);
  left = λ j b c. get_or-set_other w k j x (pos 0) (omega arith) ∙ replaced.left j (omega arith) c;
}
  where
    go : (j : ℕ) → j < k + 1 → Dec (j ≡ k) → coefficient (set w k x) j ≡ f j
    go j b (yes z) = rw z (get_or-set_same w k x (pos 0) (omega (arith, replaced.count)) ∙ e)
    go j b (no z) = get_or-set_other w k j x (pos 0) z ∙ replaced.done j (omega arith)

pub replaced_lists : {w : List ℤ} {v f : ℕ → ℤ} {k : ℕ} → Replaced w v f k → ((j : ℕ) → k ≤ j → j ≤ 7 → v j ≡ f j) → Lists w f
replaced_lists {w} {v} {f} {k} replaced rest = record { count = replaced.count; entry = λ j h. go j h (dec_lt j k) }
  where
    go : (j : ℕ) → j ≤ 7 → Dec (j < k) → coefficient w j ≡ f j
    go j h (yes b) = replaced.done j b
    go j h (no b) = replaced.left j (omega arith) h ∙ rest j (omega arith) h

-- ---- how large the entries are

-- an array of w' made of one of weights
pub primed-weights : {B : ℕ} {w v : List ℤ} → Weights B w → Lists v (primed (coefficient w)) → Weights (7 * B) v
unfolding primed
primed-weights {B} {w} {v} weights lists = record { count = lists.count; small = λ j h. rw (lists.entry j h) (go j (dec_lt j 7)) }
  where
    go : (j : ℕ) → Dec (j < 7) → Within (7 * B) (primed (coefficient w) j)
    go j (yes h) = primed-within (coefficient w) j (omega arith) (weights.small (j + 1) (omega arith))
    go j (no h) =
        rw (get_or-eq_default w (pos 0) {n = j + 1} (omega (arith, weights.count)), *ℤ-zero (pos (j + 1))) (within_more (omega arith) (within-natural 0))

-- an array that holds numbers of one bound
pub listed-weights : {B : ℕ} {w : List ℤ} {f : ℕ → ℤ} → Lists w f → ((j : ℕ) → Within B (f j)) → Weights B w
listed-weights lists small = record { count = lists.count; small = λ j b. rw (lists.entry j b) (small j) }

pub more-weights : {A B : ℕ} {w : List ℤ} → A ≤ B → Weights A w → Weights B w
more-weights h weights = record { count = weights.count; small = λ j b. within_more h (weights.small j b) }
