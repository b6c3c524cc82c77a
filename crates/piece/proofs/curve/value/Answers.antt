-- The arrays stand for the piece's weights, and the two half-sums fit.
use mathlib.Core.Path.{◌≡◌, ◌∙◌, ap₂}
use Prim.Native.Nat.{◌+◌, ◌*◌, ◌-◌, ◌^◌, ◌<◌}
use native.Mathlib.Nat.{le_trans}
use native.Mathlib.Omega.{arith}
use lib.Dec.{lit<, lit≤}
use lib.IntN.{ℤ, ◌+ℤ◌}
use lib.Signed.{mag}
use mir.Syntax.{w64}
use mir.Val.{SFits, to_z, of_z}
use Rattle.integer.specs.Within.{Within}
use Rattle.hermite.specs.Blend.{right_weights}
use Rattle.hermite.specs.Polynomial.{coefficient}
use Rattle.rounding.specs.HalfSum.{half_sum}
use Rattle.rounding.specs.Limits.{size_max}
use Rattle.rounding.specs.Piece.{Piece, piece, m, n, p, q, D}
use Rattle.rounding.specs.Scaling.{scaled_times}
use Rattle.rounding.specs.Size.{Admitted}
use Rattle.rounding.specs.Value.{value}
use Rattle.rounding.proofs.Fits.{left-grade, right-grade, left-weight, right-weight, value-within}
use Rattle.half_sum.specs.Machine.{steps_1_and_2}
use Rattle.half_sum.proofs.Parts.{half-sum_is, steps_1_and_2_fit}
use Rattle.knot_weights.specs.Machine.{Weights}
use Rattle.knot_weights.proofs.Lists.{more-weights, listed-weights}
use Rattle.integer.proofs.Within.{within-fits, computed_is, result_is}
use Rattle.scaling.specs.Machine.{Complements}
use Rattle.scaling.specs.declared.fraction.Fraction.{Fraction}
use Rattle.scaling.proofs.Complements.{exchanged}
use Rattle.piece.proofs.curve.value.Goals as goal
use Rattle.piece.proofs.curve.value.Goals.{After-right_weights}

-- what a call returned, as it is held in 64 bits
held : {z y : ℤ} → mag z < 2 ^ 63 → z ≡ y → to_z w64 (of_z w64 z) ≡ y
held h e = result_is _ h ∙ e

-- the piece, and what is held where its weights are made
abbrev P : After-right_weights → Piece
P e = piece e.args.h e.args.left.now e.args.right.now

module _ (e : After-right_weights) where
  admitted : Admitted (P e)
  admitted = e.requires.0

  -- the fractions r/D and (D−r)/D
  abbrev s : Fraction
  s = e.of.result.s

  abbrev t : Fraction
  t = e.of.result.complement

  D_is : s.d ≡ D (P e)
  D_is = e.of.ensures.1 ∙ e.of-divisor.ensures

  pair : Complements s t
  pair = e.of.result.complements

  complement_is : t.a ≡ D (P e) - e.args.r
  complement_is = omega (arith, pair.together, D_is, e.of.ensures.0)

  -- the arrays of weights
  left_small : Weights (7 * size_max) e.weights.new.w
  left_small = more-weights (lit≤ tt) (listed-weights e.weights.ensures (left-weight (P e) admitted))

  right_small : Weights (7 * size_max) e.right_weights.new.w
  right_small = more-weights (lit≤ tt) (listed-weights e.right_weights.ensures (right-weight (P e) admitted))

  -- u of both half-sums
  abbrev U : ℤ
  U = steps_1_and_2 (m (P e)) (n (P e)) s.a s.d (coefficient e.weights.new.w)

  abbrev V : ℤ
  V = steps_1_and_2 (n (P e)) (m (P e)) t.a t.d (coefficient e.right_weights.new.w)

  U_within : Within (2 ^ 63 - 1) U
  U_within = steps_1_and_2_fit s (n (P e)) (right-grade (P e) admitted) (m (P e)) (left-grade (P e) admitted) left_small

  V_within : Within (2 ^ 63 - 1) V
  V_within = steps_1_and_2_fit t (m (P e)) (left-grade (P e) admitted) (n (P e)) (right-grade (P e) admitted) right_small

  -- the two half-sums, from u and v
  left_is : {u x : ℤ} → u ≡ U → x ≡ scaled_times (n (P e) + 1) u t.a t.d → x ≡ half_sum (m (P e)) (n (P e)) e.args.r (D (P e)) (p (P e))
  left_is is scales =
      half-sum_is pair (m (P e)) (n (P e)) (λ j h. e.weights.ensures.entry j (le_trans h (left-grade (P e) admitted))) is scales ∙
      ap₂ (λ a d. half_sum (m (P e)) (n (P e)) a d (p (P e))) e.of.ensures.0 D_is

  right_is : {v y : ℤ} → v ≡ V → y ≡ scaled_times (m (P e) + 1) v s.a s.d →
      y ≡ half_sum (n (P e)) (m (P e)) (D (P e) - e.args.r) (D (P e)) (right_weights (q (P e)))
  right_is is scales =
      half-sum_is (exchanged pair) (n (P e)) (m (P e)) (λ j h. e.right_weights.ensures.entry j (le_trans h (right-grade (P e) admitted))) is scales ∙
      ap₂ (λ a d. half_sum (n (P e)) (m (P e)) a d (right_weights (q (P e)))) complement_is (pair.divisor ∙ D_is)

  sum_is : {u v x y : ℤ} → u ≡ U → v ≡ V → x ≡ scaled_times (n (P e) + 1) u t.a t.d → y ≡ scaled_times (m (P e) + 1) v s.a s.d →
      x +ℤ y ≡ value (P e) e.args.r
  unfolding value
  sum_is is is' scales scales' = ap₂ (λ x y. x +ℤ y) (left_is is scales) (right_is is' scales')

  sum_fits : SFits w64 (value (P e) e.args.r)
  sum_fits = within-fits w64 _ (lit< tt) (value-within (P e) admitted e.args.r e.requires.1)

-- the result first: it is what a wrong step fails to be
pub returns : goal.returns
returns c =
    let e = (goal.at.returns c).After-right_weights in
    let u = held c.steps_1_and_2-u.type_inv c.steps_1_and_2-u.ensures.0 in
    let v = held c.steps_1_and_2-v.type_inv c.steps_1_and_2-v.ensures.0 in
    let x = held c.scaled_times-from_left.type_inv c.scaled_times-from_left.ensures in
    let y = held c.scaled_times-from_right.type_inv c.scaled_times-from_right.ensures in
    computed_is (sum_is e u v x y) (sum_fits e)

pub steps_1_and_2-v-requires : goal.steps_1_and_2-v-requires
steps_1_and_2-v-requires c =
    let e = (goal.at.steps_1_and_2-v-requires c).After-right_weights in
    (right-grade (P e) (admitted e), left-grade (P e) (admitted e), right_small e)

pub scaled_times-from_left-requires : goal.scaled_times-from_left-requires
scaled_times-from_left-requires c =
    let e = (goal.at.scaled_times-from_left-requires c).After-right_weights in
    rw (held c.steps_1_and_2-u.type_inv c.steps_1_and_2-u.ensures.0) (U_within e)

pub scaled_times-from_right-requires : goal.scaled_times-from_right-requires
scaled_times-from_right-requires c =
    let e = (goal.at.scaled_times-from_right-requires c).After-right_weights in
    rw (held c.steps_1_and_2-v.type_inv c.steps_1_and_2-v.ensures.0) (V_within e)

pub overflow_add-result : goal.overflow_add-result
overflow_add-result c =
    let e = (goal.at.overflow_add-result c).After-right_weights in
    let u = held c.steps_1_and_2-u.type_inv c.steps_1_and_2-u.ensures.0 in
    let v = held c.steps_1_and_2-v.type_inv c.steps_1_and_2-v.ensures.0 in
    let x = held c.scaled_times-from_left.type_inv c.scaled_times-from_left.ensures in
    let y = held c.scaled_times-from_right.type_inv c.scaled_times-from_right.ensures in
    rw (sum_is e u v x y) (sum_fits e)
