-- The scans of a reel: they can stand, they are as many as the count says; and what they are after a store.
use Rattle.std.specs.Prelude.{[], ◌∷◌, ◌++◌, ◌≡◌, ℕ, ◌+◌, ◌≤◌, ◌<◌, length, take, set}
use Rattle.std.proofs.Common.{arith, ◌∙◌}
use lib.Seq.{length-take-le, take-set-lt}
use Rattle.rounding.specs.Limits.{knots_max}
use Rattle.scans.specs.Standing.{Standing}
use Rattle.knot.specs.Machine.{scan, scans as scans_in}
use Rattle.knot.proofs.Lists as Lists
use Rattle.knot.proofs.Lists.{map_set, scans_stored}
use Rattle.knot.specs.declared.held.Knot.{Knot}
use Rattle.reel.specs.Machine.{scans}
use Rattle.reel.specs.declared.held.Reel.{Reel}

module _ (r : Reel) where
  pub stands : Standing (scans r)
  unfolding scans
  stands = r.standing

  within : r.count ≤ length r.knots
  within = omega (arith, r.room, r.few)

  pub length-scans : length (scans r) ≡ r.count
  unfolding scans
  length-scans = Lists.length-scans (take r.count r.knots) ∙ length-take-le r.count r.knots within

  -- one knot more, and another one in place k
  pub scans_appended : (k : Knot) → r.count < knots_max → scans_in (take (r.count + 1) (set r.knots r.count k)) ≡ scans r ++ scan k ∷ []
  unfolding scans
  scans_appended k h = scans_stored r.knots r.count k (omega (arith, r.room))

  pub scans-corrected : (i : ℕ) (k : Knot) → i < r.count → scans_in (take r.count (set r.knots i k)) ≡ set (scans r) i (scan k)
  unfolding scans
  scans-corrected i k h = rw (take-set-lt r.count r.knots i k h) (map_set scan (take r.count r.knots) i k)
