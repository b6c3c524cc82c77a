-- n+2 rounds leave g_m against n+1.
use mathlib.Core.List.{List}
use mathlib.Core.Path.{◌≡◌, sym, ◌∙◌, ap₂}
use Prim.Native.Nat.{ℕ, ◌+◌, ◌≤◌}
use native.Mathlib.Omega.{arith}
use lib.Dec.{lit<, lit≤}
use lib.IntN.{ℤ, ◌*ℤ◌}
use mir.Syntax.{w64}
use mir.Val.{SFits, to_z, of_z}
use mir.Facts.{to_z_pos}
use Rattle.hermite.specs.HalfSum.{g}
use Rattle.hermite.specs.Polynomial.{coefficient}
use Rattle.hermite.specs.RunningSums.{rounds}
use Rattle.hermite.specs.Slope.{sum_k}
use Rattle.hermite.proofs.RunningSums.{rounds-are-sums}
use Rattle.hermite.proofs.SumK.{sum_k_by_g}
use Rattle.rounding.specs.Limits.{grade_max, size_max}
use Rattle.rounding.proofs.Bounds.{sum_k-within}
use Rattle.knot_weights.specs.Machine.{Lists, Weights}
use Rattle.knot_weights.proofs.Lists.{more-weights}
use Rattle.half_sum.proofs.RunningSums.{lists-sums, weights-room}
use Rattle.integer.proofs.Within.{within-fits, computed_is}
use Rattle.piece.proofs.slope.sum_k.Goals as goal

module _ (m n : ℕ) (w v : List ℤ) (hm : m ≤ grade_max) (hn : n ≤ grade_max) (weights : Weights size_max w)
    (lists : Lists v (rounds (n + 1 + 1) (coefficient w))) where
  -- what the rounds leave
  sums : Lists v (g (n + 1) (coefficient w))
  sums = lists-sums (n + 1) w lists

  sum_fits : SFits w64 (g (n + 1) (coefficient w) m)
  sum_fits =
      rw (← rounds-are-sums (n + 1) (coefficient w) m)
      (within-fits w64 _ (lit< tt) ((weights-room (n + 1 + 1) (omega arith) (more-weights (lit≤ tt) weights)).fits (n + 1 + 1) m (omega arith) hm))

  product_is : to_z w64 (n + 1) *ℤ to_z w64 (of_z w64 (coefficient v m)) ≡ sum_k m n (coefficient w)
  product_is =
      ap₂ (λ x y. x *ℤ y) (to_z_pos w64 {n = n + 1} (omega arith)) (computed_is (sums.entry m hm) sum_fits) ∙
      sym (sum_k_by_g m n (coefficient w) hm hn)

  product_fits : SFits w64 (sum_k m n (coefficient w))
  product_fits = within-fits w64 _ (lit< tt) (sum_k-within m n (coefficient w) hm hn (λ j h. weights.small j (omega arith)))

pub returns : goal.returns
returns c =
    let a = c.args in
    let b = c.requires in (
      computed_is (product_is a.m a.n a.w.now c.rounds.new.w b.0 b.1 b.2 c.rounds.ensures)
          (product_fits a.m a.n a.w.now c.rounds.new.w b.0 b.1 b.2 c.rounds.ensures),
      sums a.m a.n a.w.now c.rounds.new.w b.0 b.1 b.2 c.rounds.ensures,
    )

pub overflow_mul-result : goal.overflow_mul-result
overflow_mul-result c =
    let a = c.args in
    let b = c.requires in
    rw (product_is a.m a.n a.w.now c.rounds.new.w b.0 b.1 b.2 c.rounds.ensures)
    (product_fits a.m a.n a.w.now c.rounds.new.w b.0 b.1 b.2 c.rounds.ensures)
