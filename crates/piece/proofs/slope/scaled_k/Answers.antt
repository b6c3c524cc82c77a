-- 65,536 × k, scaled by r/d and then by its complement.
use mathlib.Core.Path.{◌≡◌, ◌∙◌, ap}
use Prim.Native.Nat.{ℕ, ◌*◌, ◌-◌, ◌^◌, ◌<◌}
use lib.Dec.{lit<, lit≤}
use lib.IntN.{ℤ, pos, ◌*ℤ◌}
use lib.Signed.{mag}
use mir.Syntax.{w64}
use mir.Val.{to_z, of_z}
use mir.Facts.{to_z-of_z}
use Rattle.integer.specs.Within.{Within}
use Rattle.hermite.specs.HalfSum.{value_unit}
use Rattle.rounding.specs.Limits.{size_max}
use Rattle.rounding.specs.Scaling.{scaled_times}
use Rattle.rounding.specs.Trend.{scaled_k}
use Rattle.rounding.proofs.Bounds.{times-within}
use Rattle.integer.proofs.Within.{within-natural, within_more, within_mul, within-fits, computed_is, result_is}
use Rattle.scaling.proofs.Complements.{by_complement}
use Rattle.piece.proofs.slope.scaled_k.Goals as goal

-- 65,536 × k
module _ (k : ℤ) (small : Within (2 * (91520 * size_max)) k) where
  unit-within : Within (2 ^ 63 - 1) (pos value_unit *ℤ k)
  unit-within = within_more (lit≤ tt) (within_mul (pos value_unit) k (within-natural value_unit) small)

  unit_is : to_z w64 (of_z w64 (pos value_unit *ℤ to_z w64 (of_z w64 k))) ≡ pos value_unit *ℤ k
  unit_is = computed_is (ap (λ z. pos value_unit *ℤ z) (to_z-of_z (within-fits w64 k (lit< tt) small))) (within-fits w64 _ (lit< tt) unit-within)

  -- scaled by r/d, m times, as it is held in 64 bits
  first_is : {u : ℤ} (m a d : ℕ) → mag u < 2 ^ 63 → u ≡ scaled_times m (to_z w64 (of_z w64 (pos value_unit *ℤ to_z w64 (of_z w64 k)))) a d →
      to_z w64 (of_z w64 u) ≡ scaled_times m (pos value_unit *ℤ k) a d
  first_is m a d h scales = result_is _ h ∙ scales ∙ ap (λ z. scaled_times m z a d) unit_is

-- the result first: it is what a wrong step fails to be
pub returns : goal.returns
unfolding scaled_k
returns c =
    let s = c.args.place.s in
    let u = c.scaled_times-u in
    result_is c.scaled_times.result c.scaled_times.type_inv ∙ c.scaled_times.ensures ∙ by_complement c.args.place.complements c.args.n _ ∙
    ap (λ z. scaled_times c.args.n z (s.d - s.a) s.d) (first_is c.args.k c.requires c.args.m s.a s.d u.type_inv u.ensures)

pub scaled_times-requires : goal.scaled_times-requires
scaled_times-requires c =
    let s = c.args.place.s in
    let u = c.scaled_times-u in
    rw (first_is c.args.k c.requires c.args.m s.a s.d u.type_inv u.ensures)
    (times-within c.args.m _ s.a s.d s.divides.at_least s.proper (unit-within c.args.k c.requires))
