-- `water::integral::total` meets its contract: the table gives each end's sum, and h times their sum fits.
use Rattle.std.proofs.Common.{◌≡◌, ℕ, ◌+◌, ◌-◌, ◌*◌, ◌^◌, ◌<◌, List, take, drop, ◌∙◌, ap₂, ℤ, ◌+ℤ◌, ◌*ℤ◌, to_z, of_z, FitsSigned, w64, arith}
use Rattle.std.proofs.Math.Dec.{lit<}
use Rattle.std.proofs.Math.ListN.{length-take, length-drop}
use lib.Signed.{mag}
use mir.Facts.{to_z_pos}
use Rattle.integer.specs.Sum.{sum}
use Rattle.integer.proofs.Within.{within-fits, computed_is, result_is}
use Rattle.hermite.specs.Blend.{right_weights}
use Rattle.hermite.specs.Water.{weighted_sum}
use Rattle.rounding.specs.Piece.{Piece, weight, piece, m, n, p, q}
use Rattle.rounding.specs.Size.{Admitted}
use Rattle.rounding.specs.Water.{total}
use Rattle.rounding.proofs.Fits.{left-weight, right-weight, weighted_sum-within, total-within}
use Rattle.knot_weights.specs.Machine.{Lists}
use Rattle.knot_weights.proofs.Lists.{listed-weights}
use Rattle.water.specs.Machine.{IntegralWeights}
use Rattle.water.proofs.integral.ByTable.{part_small, sums_by_table}
use Rattle.water.proofs.integral.Terms.{term}
use Rattle.water.proofs.integral.total.Goals as goal

-- the row of the table for grades m and n
abbrev row : List ℕ → ℕ → ℕ → List ℕ
row t m n = take (512 - (64 * m + 8 * n)) (drop (64 * m + 8 * n) t)

module _ (h : ℕ) (left right : List ℤ) (admitted : Admitted (piece h left right)) (t : List ℕ) (table : IntegralWeights t)
    (w v : List ℤ) (w_is : Lists w (weight h left)) (v_is : Lists v (right_weights (weight h right))) where
  abbrev P : Piece
  P = piece h left right

  -- the two ends x and y, and h times their sum
  module _ (x y : ℤ) (x_fits : mag x < 2 ^ 63) (y_fits : mag y < 2 ^ 63)
      (x_is : x ≡ sum (m P) (term (row t (m P) (n P)) w)) (y_is : y ≡ sum (n P) (term (row t (n P) (m P)) v)) where
    sum_is : to_z w64 (of_z w64 x) +ℤ to_z w64 (of_z w64 y) ≡ weighted_sum (m P) (n P) (p P) (q P)
    unfolding weighted_sum
    sum_is =
        let sides = sums_by_table t table (m P) (n P) (omega arith) (omega arith) w v
        (λ j b. w_is.entry j (omega arith)) (λ j b. v_is.entry j (omega arith)) x_is y_is in
        ap₂ (λ a b. a +ℤ b) (result_is x x_fits ∙ sides.0) (result_is y y_fits ∙ sides.1)

    sum_fits : FitsSigned w64 (weighted_sum (m P) (n P) (p P) (q P))
    sum_fits = within-fits w64 _ (lit< tt) (weighted_sum-within P admitted)

    total_is : to_z w64 h *ℤ to_z w64 (of_z w64 (to_z w64 (of_z w64 x) +ℤ to_z w64 (of_z w64 y))) ≡ total P
    unfolding total
    total_is = ap₂ (λ a b. a *ℤ b) (to_z_pos w64 {n = h} (omega arith)) (computed_is sum_is sum_fits)

    total-fits : FitsSigned w64 (total P)
    total-fits = within-fits w64 (total P) (lit< tt) (total-within P admitted)

    -- as they are computed
    sum-fits_computed : FitsSigned w64 (to_z w64 (of_z w64 x) +ℤ to_z w64 (of_z w64 y))
    sum-fits_computed = rw sum_is sum_fits

    total-fits_computed : FitsSigned w64 (to_z w64 h *ℤ to_z w64 (of_z w64 (to_z w64 (of_z w64 x) +ℤ to_z w64 (of_z w64 y))))
    total-fits_computed = rw total_is total-fits

    total_computed : to_z w64 (of_z w64 (to_z w64 h *ℤ to_z w64 (of_z w64 (to_z w64 (of_z w64 x) +ℤ to_z w64 (of_z w64 y))))) ≡ total P
    total_computed = computed_is total_is total-fits

pub weighted-requires : goal.weighted-requires
weighted-requires c =
    let P = piece c.args.h c.args.left.now c.args.right.now in
    let t = c.integral_weights-table.result in
    let at = 64 * m P + 8 * n P in (
      omega arith,
      simp (length-take, length-drop) (omega (arith, c.integral_weights-table.ensures.count)),
      part_small t c.integral_weights-table.ensures (512 - at) at,
      listed-weights c.weights.ensures (left-weight P c.requires),
    )

pub weighted-requires-2 : goal.weighted-requires-2
weighted-requires-2 c =
    let P = piece c.args.h c.args.left.now c.args.right.now in
    let t = c.integral_weights-table.result in
    let at = 64 * n P + 8 * m P in (
      omega arith,
      simp (length-take, length-drop) (omega (arith, c.integral_weights-table.ensures.count)),
      part_small t c.integral_weights-table.ensures (512 - at) at,
      listed-weights c.right_weights.ensures (right-weight P c.requires),
    )

pub overflow_add-result : goal.overflow_add-result
overflow_add-result c =
    sum-fits_computed c.args.h c.args.left.now c.args.right.now c.requires _ c.integral_weights-table.ensures _ _ c.weights.ensures c.right_weights.ensures
    c.weighted.result c.weighted-2.result c.weighted.type_inv c.weighted-2.type_inv c.weighted.ensures c.weighted-2.ensures

pub overflow_mul-result : goal.overflow_mul-result
overflow_mul-result c =
    total-fits_computed c.args.h c.args.left.now c.args.right.now c.requires _ c.integral_weights-table.ensures _ _ c.weights.ensures c.right_weights.ensures
    c.weighted.result c.weighted-2.result c.weighted.type_inv c.weighted-2.type_inv c.weighted.ensures c.weighted-2.ensures

pub returns : goal.returns
returns c =
    total_computed c.args.h c.args.left.now c.args.right.now c.requires _ c.integral_weights-table.ensures _ _ c.weights.ensures c.right_weights.ensures
    c.weighted.result c.weighted-2.result c.weighted.type_inv c.weighted-2.type_inv c.weighted.ensures c.weighted-2.ensures
