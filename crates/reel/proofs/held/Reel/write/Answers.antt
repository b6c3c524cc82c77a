-- 10 with the output as it was, or the block in front of it and its length.
use borrow.Author.Tests.{lt-ltb, le-ltb}
use mir.Facts.{to_z_pos}
use mir.Syntax.{w64}
use mir.Val.{to_z}
use Rattle.std.proofs.Common.{arith, ◌≡◌, ◌≤◌, ◌<◌, length, pos, refl, ◌∙◌, ap}
use Rattle.knot.specs.declared.table.Refusal.TheVariants as Refusals
use Rattle.knot.proofs.Lists as Lists
use Rattle.block.specs.Block.{block, written_max, written}
use Rattle.block.proofs.Written.{block-length}
use Rattle.calls.specs.Calls.{write}
use Rattle.reel.specs.Machine.{scans}
use Rattle.reel.proofs.Scans.{stands}
use Rattle.reel.proofs.held.Promises.{refuses, answers}
use Rattle.reel.proofs.held.Reel.write.Goals as goal

pub length-requires : goal.length-requires
length-requires c =
    omega (arith, (stands c.args.self).count, Lists.length-scans c.list-knots.result.now, ap length c.list-knots.ensures)

pub write-size-requires : goal.write-size-requires
write-size-requires c = (
  omega (arith, (stands c.args.self).count, Lists.length-scans c.list-knots.result.now, ap length c.list-knots.ensures),
  omega (arith, c.if-out-length.false, c.length.ensures),
)

pub returns-then-out-length : goal.returns-then-out-length
returns-then-out-length c =
    let r = c.args.self in
    let short : length c.args.out.now < length (block (scans r)) =
    omega (arith, c.if-out-length.true, c.length.ensures, ap (λ s. length (block s)) c.list-knots.ensures) in
    refuses (write c.args.out.now) r Refusals.Output c.refused.result c.refused.ensures
    (rw (lt-ltb (length c.args.out.now) (length (block (scans r))) short) refl)

pub returns : goal.returns
returns c =
    let r = c.args.self in
    let n = c.write-size in
    let are = c.list-knots.ensures in
    let size : n.result ≡ length (block (scans r)) = n.ensures.0 ∙ ap (λ s. length (block s)) are in
    let most : length (block (scans r)) ≤ written_max = block-length (scans r) (stands r) in
    let room : length (block (scans r)) ≤ length c.args.out.now =
    omega (arith, c.if-out-length.false, c.length.ensures, ap (λ s. length (block s)) are) in
    answers (write c.args.out.now) r (to_z w64 n.result) (pos (length (block (scans r)))) _
    (rw (le-ltb (length c.args.out.now) (length (block (scans r))) room) refl) refl
    (to_z_pos w64 {n = n.result} (omega (arith, most, size)) ∙ ap pos size) refl (n.ensures.1 ∙ ap (λ s. written s c.args.out.now) are)
