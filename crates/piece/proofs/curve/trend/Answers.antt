-- The arrays stand for the piece's weights, and Y1 − Y2 + Y3 fits.
use mathlib.Core.Path.{◌≡◌, ◌∙◌, ap, ap₂}
use Prim.Native.Nat.{ℕ, ◌-◌, ◌^◌, ◌<◌}
use native.Mathlib.Nat.{le_trans}
use native.Mathlib.Omega.{arith}
use lib.Dec.{lit<}
use lib.IntN.{ℤ, ◌+ℤ◌, ◌-ℤ◌}
use lib.Signed.{mag}
use mir.Syntax.{w64}
use mir.Val.{SFits, to_z, of_z}
use Rattle.integer.specs.Within.{Within}
use Rattle.hermite.specs.Blend.{right_weights}
use Rattle.hermite.specs.Polynomial.{coefficient}
use Rattle.hermite.specs.Slope.{K, sum_k}
use Rattle.rounding.specs.HalfSum.{lower_half_sum}
use Rattle.rounding.specs.Limits.{size_max}
use Rattle.rounding.specs.Piece.{Piece, piece, m, n, p, q, D, position_unit}
use Rattle.rounding.specs.Scaling.{scaled}
use Rattle.rounding.specs.Size.{Admitted}
use Rattle.rounding.specs.Trend.{Y1, Y2, Y3, scaled_k, trend}
use Rattle.rounding.proofs.Agree.{sum_k-agree}
use Rattle.rounding.proofs.Fits.{left-grade, right-grade, left-weight, right-weight, K_within, difference_within, slope-within}
use Rattle.rounding.proofs.Scaling.{divided}
use Rattle.half_sum.specs.Machine.{lower_steps_1_and_2, lower_step_3}
use Rattle.half_sum.proofs.Parts.{lower-half-sum_is, lower-steps_1_and_2_fit}
use Rattle.knot_weights.specs.Machine.{Weights}
use Rattle.knot_weights.proofs.Lists.{listed-weights}
use Rattle.integer.proofs.Within.{within-fits, computed_is, result_is}
use Rattle.scaling.specs.Machine.{Complements}
use Rattle.scaling.specs.declared.fraction.Fraction.{Fraction}
use Rattle.scaling.proofs.Complements.{exchanged}
use Rattle.piece.proofs.curve.trend.Goals as goal
use Rattle.piece.proofs.curve.trend.Goals.{After-right_weights}

-- what a call returned, as it is held in 64 bits
held : {z y : ℤ} → mag z < 2 ^ 63 → z ≡ y → to_z w64 (of_z w64 z) ≡ y
held h e = result_is _ h ∙ e

-- the piece, and what is held where its weights are made
abbrev P : After-right_weights → Piece
P e = piece e.args.h e.args.left.now e.args.right.now

module _ (e : After-right_weights) where
  admitted : Admitted (P e)
  admitted = e.requires.0

  -- the fractions r/D and (D−r)/D
  abbrev s : Fraction
  s = e.of-place.result.s

  abbrev t : Fraction
  t = e.of-place.result.complement

  D_is : s.d ≡ D (P e)
  D_is = e.of-place.ensures.1 ∙ e.of-divisor.ensures

  pair : Complements s t
  pair = e.of-place.result.complements

  complement_is : t.a ≡ D (P e) - e.args.r
  complement_is = omega (arith, pair.together, D_is, e.of-place.ensures.0)

  -- the arrays of weights
  left_small : Weights size_max e.weights.new.w
  left_small = listed-weights e.weights.ensures (left-weight (P e) admitted)

  right_small : Weights size_max e.right_weights.new.w
  right_small = listed-weights e.right_weights.ensures (right-weight (P e) admitted)

  -- u of both half-sums
  abbrev U : ℤ
  U = lower_steps_1_and_2 (m (P e)) (n (P e)) s.a s.d (coefficient e.weights.new.w)

  abbrev V : ℤ
  V = lower_steps_1_and_2 (n (P e)) (m (P e)) t.a t.d (coefficient e.right_weights.new.w)

  U_within : Within (2 ^ 63 - 1) U
  U_within = lower-steps_1_and_2_fit s (n (P e)) (right-grade (P e) admitted) (m (P e)) (left-grade (P e) admitted) left_small

  V_within : Within (2 ^ 63 - 1) V
  V_within = lower-steps_1_and_2_fit t (m (P e)) (left-grade (P e) admitted) (n (P e)) (right-grade (P e) admitted) right_small

  -- K, from its two sums
  abbrev K_of : ℤ
  K_of = K (m (P e)) (n (P e)) (p (P e)) (q (P e))

  K_is : {x y : ℤ} → x ≡ sum_k (n (P e)) (m (P e)) (coefficient e.right_weights.new.w) → y ≡ sum_k (m (P e)) (n (P e)) (coefficient e.weights.new.w) →
      x -ℤ y ≡ K_of
  unfolding K
  K_is right left =
      ap₂ (λ x y. x -ℤ y)
      (right ∙ sum_k-agree (n (P e)) (m (P e)) (λ j h. e.right_weights.ensures.entry j (le_trans h (right-grade (P e) admitted))))
      (left ∙ sum_k-agree (m (P e)) (n (P e)) (λ j h. e.weights.ensures.entry j (le_trans h (left-grade (P e) admitted))))

  K_fits : SFits w64 K_of
  K_fits = within-fits w64 _ (lit< tt) (K_within (P e) admitted)

  -- Y1, Y2 and Y3, from u, v and K
  Y1_is : {u x : ℤ} → u ≡ U → x ≡ lower_step_3 (m (P e)) (n (P e)) t.a t.d u → x ≡ Y1 (P e) e.args.r
  unfolding Y1
  Y1_is is scales =
      lower-half-sum_is pair (m (P e)) (n (P e)) (λ j h. e.weights.ensures.entry j (le_trans h (left-grade (P e) admitted))) is scales ∙
      ap₂ (λ a d. lower_half_sum (m (P e)) (n (P e)) a d (p (P e))) e.of-place.ensures.0 D_is

  Y2_is : {v y : ℤ} → v ≡ V → y ≡ lower_step_3 (n (P e)) (m (P e)) s.a s.d v → y ≡ Y2 (P e) e.args.r
  unfolding Y2
  Y2_is is scales =
      lower-half-sum_is (exchanged pair) (n (P e)) (m (P e))
      (λ j h. e.right_weights.ensures.entry j (le_trans h (right-grade (P e) admitted))) is scales ∙
      ap₂ (λ a d. lower_half_sum (n (P e)) (m (P e)) a d (right_weights (q (P e)))) complement_is (pair.divisor ∙ D_is)

  Y3_is : {k z : ℤ} → k ≡ K_of → z ≡ scaled_k (m (P e)) (n (P e)) s.a s.d k → z ≡ Y3 (P e) e.args.r
  unfolding Y3
  Y3_is is scales =
      scales ∙ ap (λ k. scaled_k (m (P e)) (n (P e)) s.a s.d k) is ∙
      ap₂ (λ a d. scaled_k (m (P e)) (n (P e)) a d K_of) e.of-place.ensures.0 D_is

  -- Y1 − Y2 + Y3
  abbrev slope : ℤ
  slope = Y1 (P e) e.args.r -ℤ Y2 (P e) e.args.r +ℤ Y3 (P e) e.args.r

  difference_fits : SFits w64 (Y1 (P e) e.args.r -ℤ Y2 (P e) e.args.r)
  difference_fits = within-fits w64 _ (lit< tt) (difference_within (P e) admitted e.args.r e.requires.1)

  slope_small : Within (2 ^ 63 - 1) slope
  slope_small = slope-within (P e) admitted e.args.r e.requires.1

  slope_fits : SFits w64 slope
  slope_fits = within-fits w64 _ (lit< tt) slope_small

  difference_is : {x y : ℤ} → x ≡ Y1 (P e) e.args.r → y ≡ Y2 (P e) e.args.r → x -ℤ y ≡ Y1 (P e) e.args.r -ℤ Y2 (P e) e.args.r
  difference_is first second = ap₂ (λ x y. x -ℤ y) first second

  slope_is : {x y z : ℤ} → x ≡ Y1 (P e) e.args.r → y ≡ Y2 (P e) e.args.r → z ≡ Y3 (P e) e.args.r → to_z w64 (of_z w64 (x -ℤ y)) +ℤ z ≡ slope
  slope_is first second third = ap₂ (λ x y. x +ℤ y) (computed_is (difference_is first second) difference_fits) third

  -- and the trend, which is that scaled by 256/D
  trend_is : {v z : ℤ} {a d : ℕ} → z ≡ slope → a ≡ position_unit → d ≡ e.of-divisor.result.d → v ≡ scaled z a d → v ≡ trend (P e) e.args.r
  unfolding trend
  trend_is {a = a} {d = d} is a_is d_is scales =
      scales ∙ ap (λ z. scaled z a d) is ∙ ap₂ (λ x y. scaled slope x y) a_is (d_is ∙ e.of-divisor.ensures) ∙
      divided slope e.args.h e.requires.0.gap_at_least

-- the result first: it is what a wrong step fails to be
pub returns : goal.returns
returns c =
    let e = (goal.at.returns c).After-right_weights in
    let k = computed_is (K_is e (held c.sum_k.type_inv c.sum_k.ensures.0) (held c.sum_k-2.type_inv c.sum_k-2.ensures.0)) (K_fits e) in
    let y1 = Y1_is e (held c.lower_steps_1_and_2-u.type_inv c.lower_steps_1_and_2-u.ensures) (held c.lower_step_3-y1.type_inv c.lower_step_3-y1.ensures) in
    let y2 = Y2_is e (held c.lower_steps_1_and_2-v.type_inv c.lower_steps_1_and_2-v.ensures) (held c.lower_step_3-y2.type_inv c.lower_step_3-y2.ensures) in
    let y3 = Y3_is e k (held c.scaled_k-y3.type_inv c.scaled_k-y3.ensures) in
    trend_is e (computed_is (slope_is e y1 y2 y3) (slope_fits e)) c.of.ensures.0 c.of.ensures.1 (held c.scaled.type_inv c.scaled.ensures)

pub lower_steps_1_and_2-v-requires : goal.lower_steps_1_and_2-v-requires
lower_steps_1_and_2-v-requires c =
    let e = (goal.at.lower_steps_1_and_2-v-requires c).After-right_weights in
    (right-grade (P e) (admitted e), left-grade (P e) (admitted e), right_small e)

pub sum_k-requires : goal.sum_k-requires
sum_k-requires c =
    let e = (goal.at.sum_k-requires c).After-right_weights in
    (right-grade (P e) (admitted e), left-grade (P e) (admitted e), right_small e)

pub overflow_sub-k : goal.overflow_sub-k
overflow_sub-k c =
    let e = (goal.at.overflow_sub-k c).After-right_weights in
    rw (K_is e (held c.sum_k.type_inv c.sum_k.ensures.0) (held c.sum_k-2.type_inv c.sum_k-2.ensures.0)) (K_fits e)

pub lower_step_3-y1-requires : goal.lower_step_3-y1-requires
lower_step_3-y1-requires c =
    let e = (goal.at.lower_step_3-y1-requires c).After-right_weights in
    (right-grade (P e) (admitted e), rw (held c.lower_steps_1_and_2-u.type_inv c.lower_steps_1_and_2-u.ensures) (U_within e))

pub lower_step_3-y2-requires : goal.lower_step_3-y2-requires
lower_step_3-y2-requires c =
    let e = (goal.at.lower_step_3-y2-requires c).After-right_weights in
    (left-grade (P e) (admitted e), rw (held c.lower_steps_1_and_2-v.type_inv c.lower_steps_1_and_2-v.ensures) (V_within e))

pub scaled_k-y3-requires : goal.scaled_k-y3-requires
scaled_k-y3-requires c =
    let e = (goal.at.scaled_k-y3-requires c).After-right_weights in
    let k = K_is e (held c.sum_k.type_inv c.sum_k.ensures.0) (held c.sum_k-2.type_inv c.sum_k-2.ensures.0) in
    rw (computed_is k (K_fits e)) (K_within (P e) (admitted e))

pub overflow_sub-y1 : goal.overflow_sub-y1
overflow_sub-y1 c =
    let e = (goal.at.overflow_sub-y1 c).After-right_weights in
    let y1 = Y1_is e (held c.lower_steps_1_and_2-u.type_inv c.lower_steps_1_and_2-u.ensures) (held c.lower_step_3-y1.type_inv c.lower_step_3-y1.ensures) in
    let y2 = Y2_is e (held c.lower_steps_1_and_2-v.type_inv c.lower_steps_1_and_2-v.ensures) (held c.lower_step_3-y2.type_inv c.lower_step_3-y2.ensures) in
    rw (difference_is e y1 y2) (difference_fits e)

pub overflow_add-y1 : goal.overflow_add-y1
overflow_add-y1 c =
    let e = (goal.at.overflow_add-y1 c).After-right_weights in
    let k = computed_is (K_is e (held c.sum_k.type_inv c.sum_k.ensures.0) (held c.sum_k-2.type_inv c.sum_k-2.ensures.0)) (K_fits e) in
    let y1 = Y1_is e (held c.lower_steps_1_and_2-u.type_inv c.lower_steps_1_and_2-u.ensures) (held c.lower_step_3-y1.type_inv c.lower_step_3-y1.ensures) in
    let y2 = Y2_is e (held c.lower_steps_1_and_2-v.type_inv c.lower_steps_1_and_2-v.ensures) (held c.lower_step_3-y2.type_inv c.lower_step_3-y2.ensures) in
    let y3 = Y3_is e k (held c.scaled_k-y3.type_inv c.scaled_k-y3.ensures) in
    rw (slope_is e y1 y2 y3) (slope_fits e)

pub scaled-requires : goal.scaled-requires
scaled-requires c =
    let e = (goal.at.scaled-requires c).After-right_weights in
    let k = computed_is (K_is e (held c.sum_k.type_inv c.sum_k.ensures.0) (held c.sum_k-2.type_inv c.sum_k-2.ensures.0)) (K_fits e) in
    let y1 = Y1_is e (held c.lower_steps_1_and_2-u.type_inv c.lower_steps_1_and_2-u.ensures) (held c.lower_step_3-y1.type_inv c.lower_step_3-y1.ensures) in
    let y2 = Y2_is e (held c.lower_steps_1_and_2-v.type_inv c.lower_steps_1_and_2-v.ensures) (held c.lower_step_3-y2.type_inv c.lower_step_3-y2.ensures) in
    let y3 = Y3_is e k (held c.scaled_k-y3.type_inv c.scaled_k-y3.ensures) in
    rw (computed_is (slope_is e y1 y2 y3) (slope_fits e)) (slope_small e)
