-- One more scaling is one more turn, and what is scaled stays within the bound of u.
use Rattle.std.proofs.Common.{refl, ◌∙◌, ap, add-one}
use mir.Facts.{to_z-of_z}
use Rattle.rounding.specs.Scaling.{scaled, scaled_times}
use Rattle.rounding.proofs.Bounds.{times-within}
use Rattle.integer.proofs.Within.{result_is}
use Rattle.scaling.proofs.fraction.scaled_times.Goals as goal

pub loop-init : goal.loop-init
unfolding scaled_times
loop-init c = refl

pub scaled-v-requires : goal.scaled-v-requires
scaled-v-requires c =
    rw (c.loop.invariant, to_z-of_z c.ranges.u)
    (times-within c.loop.counter c.args.u c.args.s.a c.args.s.d c.args.s.divides.at_least c.args.s.proper c.requires)

pub loop-preserved : goal.loop-preserved
unfolding scaled_times
loop-preserved c =
    rw (result_is c.scaled-v.result c.scaled-v.type_inv, add-one)
    (c.scaled-v.ensures ∙ ap (λ z. scaled z c.args.s.a c.args.s.d) c.loop.invariant)
