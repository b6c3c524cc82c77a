-- x lies at the place of a value.
use Rattle.std.proofs.Common.{rules, ◌∙◌}
use Rattle.integer.proofs.Within.{result_is}
use Rattle.rounding.specs.Value.{value}
use Rattle.knot.specs.Machine.{scans}
use Rattle.scans.specs.Pieces.{is_last, value_place}
use Rattle.scans.specs.Queries.{value_at}
use Rattle.scans.proofs.Pieces.{value-lies}
use Rattle.chain.proofs.Knots.{in_piece}
use Rattle.chain.proofs.queries.value.Goals as goal

pub of_piece-requires-clause-lies : goal.of_piece-requires-clause-lies
of_piece-requires-clause-lies c =
    let all = scans c.args.knots.now in
    rw c.piece_at-k.ensures (in_piece all (is_last all) c.args.x (value_place all c.args.x) (value-lies all c.requires.chained c.args.x c.requires.within))

pub returns : goal.returns
unfolding value_at
returns c =
    result_is c.of_piece.result c.of_piece.type_inv ∙ rw c.piece_at-k.ensures at (c.of_piece.ensures value (λ h p q r n gave. search rules))
