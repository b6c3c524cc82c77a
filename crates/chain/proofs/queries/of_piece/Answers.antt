-- f is given what the piece of knots k and k + 1 is made of, and the distance of x from knot k.
use Rattle.std.proofs.Common.{◌≡◌, ◌-◌, ◌*◌, arith, ap, ap₂, ◌∙◌}
use Rattle.integer.proofs.Within.{result_is}
use Rattle.knot.proofs.Lists.{length-scans}
use Rattle.knot.specs.Machine.{scans}
use Rattle.scans.specs.Pieces.{mark}
use Rattle.chain.proofs.Knots.{mark_at, piece_is, admitted}
use Rattle.chain.proofs.queries.of_piece.Goals as goal

pub f-requires : goal.f-requires
f-requires g c =
    let knots = c.args.knots.now in
    let k = c.args.k in
    let left = c.index-knots-k in
    let right = c.index-knots-k-2 in
    let inside = c.requires.lies.piece in
    let same = piece_is knots k _ _ left.is right.is inside _ _ _ c.gap.ensures c.list.ensures c.list-2.ensures in
    let fits =
    admitted knots k _ _ left.is right.is inside _ _ _ c.gap.ensures c.list.ensures c.list-2.ensures c.requires.chained in
    c.requires.callable c.gap.result c.list.result c.list-2.result _
    (fits, omega (arith, c.requires.lies.ends, ap (λ P. P.h) same, mark_at knots k _ left.is (omega (arith, length-scans knots))))

pub returns : goal.returns
returns g c of gives =
    let knots = c.args.knots.now in
    let k = c.args.k in
    let left = c.index-knots-k in
    let right = c.index-knots-k-2 in
    let inside = c.requires.lies.piece in
    let same = piece_is knots k _ _ left.is right.is inside _ _ _ c.gap.ensures c.list.ensures c.list-2.ensures in
    let distance : c.from.result - 256 * c.from-2.result ≡ c.args.x - mark (scans knots) k =
    omega (arith, mark_at knots k _ left.is (omega (arith, length-scans knots))) in
    result_is c.f.result c.f.type_inv ∙ gives c.gap.result c.list.result c.list-2.result _ c.f.result c.f.ensures ∙
    ap₂ of same distance
