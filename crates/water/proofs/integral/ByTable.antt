-- The sums that the table of integral weights gives are those of Water.
use mathlib.Core.List.{List}
use mathlib.Core.Path.{◌≡◌, ◌∙◌, ap}
use Prim.Native.Nat.{ℕ, ◌+◌, ◌*◌, ◌-◌, ◌/◌, ◌%◌, ◌≤◌, ◌<◌}
use native.Mathlib.Decide.{dec_lt}
use native.Mathlib.Omega.{arith}
use lib.IntN.{ℤ, pos, ◌*ℤ◌, *ℤ_comm}
use lib.ListN.{get_or, take, drop, length-take, get_or-eq_default}
use lib.Seq.{get_or-take, get_or-drop}
use Rattle.integer.specs.Sum.{sum}
use Rattle.integer.proofs.Sum.{sum_cong}
use Rattle.hermite.specs.Polynomial.{coefficient}
use Rattle.hermite.specs.Water.{water_unit, c}
use Rattle.rounding.proofs.Agree.{Agree}
use Rattle.rounding.proofs.Bounds.{entry-most}
use Rattle.water.proofs.integral.Terms.{term}
use Rattle.water.specs.Machine.{Entries, IntegralWeights}

part_entry : (t : List ℕ) (k from j : ℕ) → j < k → get_or (take k (drop from t)) j 0 ≡ get_or t (from + j) 0
part_entry t k from j h = rw (get_or-take, get_or-drop)

module _ (t : List ℕ) (table : IntegralWeights t) where
  -- how large its entries are
  small : (k : ℕ) → get_or t k 0 ≤ water_unit
  small k = go (dec_lt k 512)
    where
      go : Dec (k < 512) → get_or t k 0 ≤ water_unit
      go (yes h) =
          let here : k ≡ 64 * (k / 64) + 8 * (k / 8 % 8) + k % 8 = omega arith in
          omega (
            arith,
            ap (λ i. get_or t i 0) here,
            table.entry (k / 64) (k / 8 % 8) (k % 8) (omega arith) (omega arith) (omega arith),
            entry-most (k / 64) (omega arith) (k / 8 % 8) (omega arith) (k % 8) (omega arith),
          )
      go (no h) = rw (get_or-eq_default t 0 {n = k} (omega (arith, table.count))) (omega arith)

  pub part_small : (k from : ℕ) → Entries (take k (drop from t))
  part_small k from = record { small = λ j. go j (dec_lt j k) }
    where
      go : (j : ℕ) → Dec (j < k) → get_or (take k (drop from t)) j 0 ≤ water_unit
      go j (yes h) = rw (part_entry t k from j h) (small (from + j))
      go j (no h) = rw (get_or-eq_default (take k (drop from t)) 0 {n = j} (simp length-take (omega arith))) (omega arith)

  -- the sum of one end
  sum_by_table : (m n : ℕ) → m ≤ 7 → n ≤ 7 → (w : List ℤ) {v : ℕ → ℤ} → Agree m (coefficient w) v →
      sum m (term (take (512 - (64 * m + 8 * n)) (drop (64 * m + 8 * n) t)) w) ≡ sum m (λ j. v j *ℤ pos (c m n j))
  sum_by_table m n hm hn w agree =
      sum_cong m _ _ (λ j h.
      ap (λ x. pos x *ℤ coefficient w j) (part_entry t (512 - (64 * m + 8 * n)) (64 * m + 8 * n) j (omega arith) ∙ table.entry m n j hm hn (omega arith)) ∙
      *ℤ_comm (pos (c m n j)) (coefficient w j) ∙ ap (λ x. x *ℤ pos (c m n j)) (agree j h))

  -- the sums of both ends, the right one with the grades exchanged
  pub sums_by_table : (m n : ℕ) → m ≤ 7 → n ≤ 7 → (w v : List ℤ) {f g : ℕ → ℤ} → Agree m (coefficient w) f → Agree n (coefficient v) g → {x y : ℤ} →
      x ≡ sum m (term (take (512 - (64 * m + 8 * n)) (drop (64 * m + 8 * n) t)) w) →
      y ≡ sum n (term (take (512 - (64 * n + 8 * m)) (drop (64 * n + 8 * m) t)) v) →
      (x ≡ sum m (λ j. f j *ℤ pos (c m n j))) × (y ≡ sum n (λ j. g j *ℤ pos (c n m j)))
  sums_by_table m n hm hn w v left right_side e d = (e ∙ sum_by_table m n hm hn w left, d ∙ sum_by_table n m hn hm v right_side)
