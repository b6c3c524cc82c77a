-- The knot that was read starts the piece that document 01 assigns, and is not the last.
use Rattle.std.proofs.Common.{arith}
use Rattle.chain.proofs.Knots.{inside, trend_left, trend_here}
use Rattle.chain.proofs.place.piece_of_trend.Goals as goal

pub offset_bounds-knots-k : goal.offset_bounds-knots-k
offset_bounds-knots-k c =
    record { fits = omega (arith, inside c.args.knots.now c.args.x c.piece_at-k.result c.requires c.piece_at-k.ensures, c.requires.chained.count) }

pub bounds-knots-k : goal.bounds-knots-k
bounds-knots-k c = omega (arith, inside c.args.knots.now c.args.x c.piece_at-k.result c.requires c.piece_at-k.ensures)

pub returns-then-from : goal.returns-then-from
returns-then-from c =
    trend_left c.args.knots.now c.args.x c.piece_at-k.result c.requires c.piece_at-k.ensures c.index-knots-k.result c.index-knots-k.is
    (omega arith) (omega arith) (omega arith)

pub returns : goal.returns
returns c =
    trend_here c.args.knots.now c.args.x c.piece_at-k.result c.requires c.piece_at-k.ensures c.index-knots-k.result c.index-knots-k.is
    (λ first lone on. grind arith)
