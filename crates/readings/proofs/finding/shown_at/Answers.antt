-- None past the last; before it the reading at its word.
use Rattle.std.proofs.Common.{sym, ◌∙◌, ap}
use Rattle.std.proofs.Math.Option.{some}
use Rattle.block.specs.Bytes.{words}
use Rattle.block.specs.Fields.{reading}
use Rattle.readings.proofs.Strided.{strided_at, strided-past}
use Rattle.readings.proofs.finding.shown_at.Goals as goal

pub returns-then-count-i : goal.returns-then-count-i
returns-then-count-i c = let a = c.args in sym (strided-past (words a.block.now) a.start a.stride a.count a.i c.if-count-i.true)

pub returns : goal.returns
returns c =
    let a = c.args in
    ap some (c.reading.ensures ∙ ap reading c.load.ensures.value) ∙
    sym (strided_at (words a.block.now) a.start a.stride a.count a.i c.if-count-i.false)
