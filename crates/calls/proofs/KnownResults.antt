-- The M entries, by computing.
use mathlib.Core.Path.{refl}
use Rattle.integer.specs.Sum.{sum}
use Rattle.hermite.specs.Binomial.{binomial, sign}
use Rattle.hermite.specs.Blend.{right_weights}
use Rattle.hermite.specs.HalfSum.{g}
use Rattle.hermite.specs.Slope.{primed, kappa, sum_k, K}
use Rattle.hermite.specs.Water.{c, weighted_sum}
use Rattle.rounding.specs.Scaling.{rounded, scaled, scaled_times}
use Rattle.rounding.specs.HalfSum.{descended, half_sum, lower_half_sum}
use Rattle.rounding.specs.Value.{value}
use Rattle.rounding.specs.Trend.{Y1, Y2, Y3, scaled_k, trend}
use Rattle.rounding.specs.Water.{total}
use Rattle.scans.specs.Pieces.{first_past}
use Rattle.scans.specs.Queries.{value_at, trend_at, sum_from, total_over}
use Rattle.calls.specs.Calls.{reply_to}
use Rattle.calls.specs.KnownResults.{KnownResults}

pub known_results : KnownResults
unfolding reply_to value_at trend_at total_over sum_from first_past value trend total Y1 Y2 Y3 scaled_k lower_half_sum half_sum descended scaled_times scaled
    rounded g primed K sum_k kappa weighted_sum c right_weights binomial sign sum
known_results =
    record {
      value-half = refl;
      trend-half = refl;
      value-start = refl;
      value-below = refl;
      trend-long = refl;
      total_constant = refl;
      total-left-slope = refl;
      total-right-slope = refl;
      total_unequal = refl;
      total_curved = refl;
      total_seventh = refl;
      value_at_knot = refl;
      value-before-first = refl;
    }
