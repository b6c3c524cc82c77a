-- A turn puts the line of piece k behind those before it.
use Rattle.std.proofs.Common.{refl, ◌∙◌, add-one, arith}
use Rattle.reel.proofs.Scans.{stands}
use Rattle.text.proofs.Sets.{put-put}
use Rattle.report_lines.specs.Report.{piece_lines}
use Rattle.report_lines.proofs.Texts.{put_none, row_is}
use Rattle.report_lines.proofs.lines.put_pieces.Goals as goal

pub loop-k-init : goal.loop-k-init
unfolding piece_lines
loop-k-init c = record { pieces = omega arith; put = put_none _ _; within = omega arith; room = refl }

pub loop-k-preserved : goal.loop-k-preserved
unfolding piece_lines
loop-k-preserved c = record {
  pieces = omega (arith, c.loop-k-test.true, c.count.ensures, c.saturating_sub-k-end.ensures);
  put = rw (add-one, ← row_is c.ask.ensures) (put-put c.loop-k.invariant.put c.put_row-at.ensures.put);
  within = omega (arith, c.loop-k.invariant.within, c.put_row-at.ensures.upper_bound);
  room = c.put_row-at.auto.out ∙ c.loop-k.invariant.room;
}

-- there are at most 128 lines
pub put_row-at-requires : goal.put_row-at-requires
put_row-at-requires c =
    omega (
      arith,
      c.loop-k.invariant.within,
      c.loop-k.invariant.room,
      c.loop-k-test.true,
      c.count.ensures,
      c.saturating_sub-k-end.ensures,
      (stands c.args.reel).count,
      c.requires,
    )

pub returns-clause-upper_bound : goal.returns-clause-upper_bound
returns-clause-upper_bound c =
    omega (arith, c.loop-k.invariant.within, c.loop-k.invariant.pieces, (stands c.args.reel).count)
