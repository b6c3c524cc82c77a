-- The powers of h.
use mathlib.Core.Path.{◌∙◌, ap}
use native.Mathlib.Omega.{arith}
use mir.Syntax.{w64}
use mir.Facts.{to_z_pos}
use Rattle.knot_weights.specs.Machine.{by_powers}
use Rattle.knot_weights.proofs.SignedPowers.{left-powers}
use Rattle.knot_weights.proofs.powers.weights.Goals as goal

pub returns : goal.returns
returns c = record {
  count = c.by_powers.ensures.count;
  entry = λ j h. c.by_powers.ensures.entry j h ∙ ap (λ z. by_powers z c.args.c.now j) (to_z_pos w64 {n = c.args.h} (omega (arith, c.requires.0))) ∙
      left-powers c.args.h c.args.c.now j;
}
