-- A reading is counted, or its fault is the first of all.
use Rattle.std.proofs.Common.{sym, ◌∙◌}
use borrow.Author.Tests.{eq-eqb}
use Rattle.std.proofs.lemmas.Result.{err_from_is_err_and}
use Rattle.block.specs.Bytes.{words}
use Rattle.block.specs.Block.{readings_edition}
use Rattle.word_faults.proofs.Counting.{wrong, right}
use Rattle.word_faults.proofs.readings.count_readings.Goals as goal

pub loop-edition-preserved : goal.loop-edition-preserved
loop-edition-preserved c =
    right (words c.args.block.now) c.args.from c.loop-edition.count c.loop-edition.invariant c.load-word.result c.load-word.ensures.value
    (sym c.is_reading.ensures ∙ c.if-not-is_reading.false) (sym c.in_ok-reading_fault.ensures)

pub returns-in_err-reading_fault : goal.returns-in_err-reading_fault
returns-in_err-reading_fault c =
    let failed = err_from_is_err_and c.from_residual.result c.from_residual.ensures.1 in
    let all = wrong (words c.args.block.now) c.args.from c.loop-edition.count c.loop-edition.invariant c.load-word.result c.load-word.ensures.value
    (sym c.is_reading.ensures ∙ c.if-not-is_reading.false) (sym c.in_err-reading_fault.ensures) in
    rw (failed.1, failed.2, eq-eqb c.args.edition readings_edition (c.if-edition-from.false ∙ c.from.ensures))
    (record { fault = sym all; count = tt; few = tt })
