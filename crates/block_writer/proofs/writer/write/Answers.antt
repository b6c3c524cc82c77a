-- The block fits the output, which is as long as at entry.
use Rattle.std.proofs.Common.{◌≡◌, ℕ, ◌+◌, ◌*◌, ◌≤◌, List, length, ap, ◌∙◌, arith}
use Rattle.std.proofs.Math.Seq.{length-sets}
use Rattle.std.proofs.lemmas.List.Edits.{sets}
use Rattle.knot.specs.Machine.{scans}
use Rattle.knot.specs.declared.held.Knot.{Knot}
use Rattle.block.specs.Block.{block, knots_words}
use Rattle.block.specs.Bytes.{bytes_of}
use Rattle.block.proofs.Written.{block_words_lem}
use Rattle.block_writer.proofs.Stored.{Knots, knot-fits, one-knot, all-counted, block_stored}
use Rattle.block_writer.proofs.writer.write.Goals as goal

fitting : (l before out : List ℕ) (knots : List Knot) (i k v : ℕ) → Knots before knots out i k → before ≡ sets l 0 (bytes_of v) →
    length (block (scans knots)) ≤ length l → 4 * (2 + length (knots_words (scans knots))) ≤ length out
fitting l before out knots i k v come stored fits =
    let same : length out ≡ length l = come.left.same ∙ ap length stored ∙ length-sets l 0 (bytes_of v) in
    omega (arith, same, fits, block_words_lem (scans knots))

pub store-requires : goal.store-requires
store-requires c = omega (arith, c.requires.1, block_words_lem (scans c.args.knots.now))

pub write_knot-i-requires : goal.write_knot-i-requires
write_knot-i-requires c =
    let come = c.loop-knot.invariant in
    omega (
      arith,
      knot-fits _ c.args.knots.now c.loop-knot.out c.loop-knot.i c.loop-knot.knot-index come c.knot-item.result c.knot-item.is c.loop-knot-test.true,
      fitting c.args.out.now _ _ c.args.knots.now _ _ c.header_word.result come c.store.ensures c.requires.1,
    )

pub loop-knot-preserved : goal.loop-knot-preserved
loop-knot-preserved c =
    one-knot _ c.args.knots.now c.loop-knot.out c.loop-knot.i c.loop-knot.knot-index c.loop-knot.invariant c.knot-item.result c.knot-item.is
    c.loop-knot-test.true _ c.write_knot-i.result c.write_knot-i.ensures.0 c.write_knot-i.ensures.1

pub store-requires-2 : goal.store-requires-2
store-requires-2 c =
    let come = c.loop-knot.invariant in
    omega (
      arith,
      all-counted _ c.args.knots.now c.loop-knot.out c.loop-knot.i c.loop-knot.knot-index come c.loop-knot-test.false,
      fitting c.args.out.now _ _ c.args.knots.now _ _ c.header_word.result come c.store.ensures c.requires.1,
    )

pub returns : goal.returns
returns c =
    let come = c.loop-knot.invariant in
    let all = all-counted _ c.args.knots.now c.loop-knot.out c.loop-knot.i c.loop-knot.knot-index come c.loop-knot-test.false in (
      omega (arith, all, block_words_lem (scans c.args.knots.now)),
      block_stored _ c.args.knots.now c.loop-knot.out c.loop-knot.i c.loop-knot.knot-index come c.loop-knot-test.false
          c.args.out.now _ c.header_word.result c.end_word.result c.header_word.ensures c.store.ensures
          c.end_word.ensures c.store-2.ensures c.requires.1,
    )
