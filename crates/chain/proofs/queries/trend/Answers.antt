-- x lies at the place of a trend.
use Rattle.std.proofs.Common.{rules, ◌∙◌, ap}
use Rattle.integer.proofs.Within.{result_is}
use Rattle.rounding.specs.Trend.{trend}
use Rattle.knot.specs.Machine.{scans}
use Rattle.scans.specs.Pieces.{is_last_or_lone, piece_of, trend_place}
use Rattle.scans.specs.Queries.{trend_at}
use Rattle.scans.proofs.Pieces.{trend-lies}
use Rattle.chain.proofs.Knots.{in_piece, distance}
use Rattle.chain.proofs.queries.trend.Goals as goal

pub of_piece-requires-clause-lies : goal.of_piece-requires-clause-lies
of_piece-requires-clause-lies c =
    let all = scans c.args.knots.now in
    rw c.piece_of_trend-k.ensures
    (in_piece all (is_last_or_lone all) c.args.x (trend_place all c.args.x) (trend-lies all c.requires.chained c.args.x c.requires.within))

pub returns : goal.returns
unfolding trend_at
returns c =
    let all = scans c.args.knots.now in
    let place = trend_place all c.args.x in
    let far = distance all (is_last_or_lone all) c.args.x place (trend-lies all c.requires.chained c.args.x c.requires.within) in
    let there = rw c.piece_of_trend-k.ensures at (c.of_piece.ensures trend (λ h p q r n gave. search rules)) in
    result_is c.of_piece.result c.of_piece.type_inv ∙ there ∙ ap (trend (piece_of all place.k)) far
