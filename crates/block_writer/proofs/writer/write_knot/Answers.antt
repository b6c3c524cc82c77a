-- One coefficient word more: a coefficient fits its 32 bits.
use Rattle.std.proofs.Common.{◌<◌, ◌^◌, pos, get_or, w32, arith, ap, ◌∙◌}
use lib.Signed.{mag}
use mir.Facts.{to_z-of_z}
use Rattle.block.specs.Fields.{coefficient_word}
use Rattle.block_writer.proofs.Stored.{one_stored}
use Rattle.block_writer.proofs.writer.write_knot.Goals as goal

pub loop-j-preserved : goal.loop-j-preserved
loop-j-preserved c =
    let list = c.list-list.result.now in
    let small : mag (get_or list c.loop-j.j (pos 0)) < 2 ^ 31 = omega arith in
    one_stored c.store.new.bytes c.args.i list c.loop-j.out c.loop-j.j c.loop-j.invariant c.loop-j-test.true _ _
    (c.coefficient_word.ensures ∙ ap coefficient_word (to_z-of_z {w = w32} (record { sfits = small }))) c.store-in-loop-j.ensures
