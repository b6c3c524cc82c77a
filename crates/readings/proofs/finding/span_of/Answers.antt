-- Each knot is passed by its words and its readings, until the one that is looked for.
use Rattle.std.proofs.Common.{◌≡◌, ◌-◌, [], length, get_or, drop, sym, ap, ◌∙◌, subst, arith}
use Rattle.std.proofs.Math.Option.{none}
use Rattle.scans.proofs.Causes.{Quiet}
use Rattle.block.specs.Fields.{knot_count, edition}
use Rattle.block.specs.Bytes.{words}
use Rattle.block.specs.Reading.{knots_causes}
use Rattle.block.specs.View.{readings_from}
use Rattle.block.proofs.Reading.{accepted}
use Rattle.readings.specs.Machine.{Spans}
use Rattle.readings.proofs.Spans.{Whole, the_block, nothing_yet, near, without_fault, pass, found}
use Rattle.readings.proofs.finding.span_of.Goals as goal
use Rattle.readings.proofs.finding.span_of.Goals.{After-edition-edition}

-- the block that the function gets, and its edition
module _ (c : After-edition-edition) where
  whole : Whole c.args.block.now c.args.k
  whole = the_block c.args.block.now c.args.k (accepted c.args.block.now c.requires.0) c.requires.1

  edition_is : c.edition-edition.result ≡ edition (get_or (words c.args.block.now) 0 0)
  edition_is = c.edition-edition.ensures ∙ ap edition c.load.ensures.value

pub loop-j-init : goal.loop-j-init
loop-j-init c =
    let ws = words c.args.block.now in
    let n = knot_count (get_or ws 0 0) in
    nothing_yet c.edition-edition.result ws n c.args.k
    (subst (λ e. Quiet (knots_causes e (length ws - 1) 0 n none (drop 1 ws))) (sym (edition_is c)) (whole c).quiet)

pub span_behind-passed-requires-clause-near : goal.span_behind-passed-requires-clause-near
span_behind-passed-requires-clause-near c =
    let block = whole (goal.at.span_behind-passed-requires-clause-near c).After-edition-edition in
    omega (arith, near c.loop-j.invariant block.there block.most)

pub span_behind-passed-requires-clause-accepted : goal.span_behind-passed-requires-clause-accepted
span_behind-passed-requires-clause-accepted c =
    without_fault c.loop-j.invariant (whole (goal.at.span_behind-passed-requires-clause-accepted c).After-edition-edition).there

pub span_behind-requires-clause-near : goal.span_behind-requires-clause-near
span_behind-requires-clause-near c =
    let block = whole (goal.at.span_behind-requires-clause-near c).After-edition-edition in
    omega (arith, near c.loop-j.invariant block.there block.most)

pub span_behind-requires-clause-accepted : goal.span_behind-requires-clause-accepted
span_behind-requires-clause-accepted c =
    without_fault c.loop-j.invariant (whole (goal.at.span_behind-requires-clause-accepted c).After-edition-edition).there

pub loop-j-preserved : goal.loop-j-preserved
loop-j-preserved c =
    pass c.loop-j.invariant (whole (goal.at.loop-j-preserved c).After-edition-edition).there c.span_behind-passed.ensures c.loop-j-test.true

pub returns : goal.returns
returns c =
    let g = (goal.at.returns c).After-edition-edition in
    let ws = words c.args.block.now in
    let n = knot_count (get_or ws 0 0) in
    subst (Spans c.span_behind.result ws)
    (ap (λ e. get_or (readings_from e n (drop 1 ws)) c.args.k []) (edition_is g) ∙ sym (whole g).readings)
    (found c.loop-j.invariant (whole g).there c.span_behind.ensures (omega arith))
