-- The reader's cause, then 9, then 11; where there is none, every n-th of the readings at this place.
use Rattle.std.proofs.Common.{◌≡◌, ℕ, ◌≤◌, ◌<◌, List, length, take, drop, refl, sym, ap, ◌∙◌, arith}
use Rattle.std.specs.Prelude.{Result, Ok, Err, MatchResult, IsErrAnd}
use Rattle.std.proofs.Math.ListN.{length-map, length-take}
use Rattle.std.proofs.Math.Option.{some, none}
use Rattle.std.proofs.Math.Seq.{length-take-le}
use Rattle.std.proofs.lemmas.Result.{err_from_is_err_and}
use Rattle.std.specs.Int.{div_ceil}
use Rattle.scans.specs.RefusalTable.{first}
use Rattle.knot.specs.Machine.{fault_in, fault_number, number, refusal}
use Rattle.knot.specs.declared.reason.Fault.{Fault}
use Rattle.knot.specs.declared.table.Refusal.{Refusal}
use Rattle.knot.proofs.Lists.{length-scans}
use Rattle.block.specs.Bytes.{words}
use Rattle.block.specs.Fields.{reading}
use Rattle.block.specs.Reading.{block_causes, list_of}
use Rattle.block.specs.View.{every_nth, unless_refused, readings_of, view_causes, view_of}
use Rattle.block.proofs.View.{reader_first, knot-after_reader, stride-after-knot, view_free}
use Rattle.block_reader.specs.Machine.{Reads}
use Rattle.block_reader.specs.declared.contents.Contents.{Contents}
use Rattle.readings.specs.Machine.{Spans, strided}
use Rattle.readings.specs.declared.finding.Span.{Span}
use Rattle.readings.proofs.Strided.{strided_every}
use Rattle.readings.proofs.finding.select.Goals as goal
use Rattle.readings.proofs.finding.select.Goals.{In_ok-contents}

-- none: every n-th of the readings at this place
module _ (bs : List ℕ) (k n : ℕ) (p : Span) (stands : Spans p (words bs) (readings_of bs k)) where
  there : p.count ≤ length (drop p.start (words bs))
  there =
      let l = drop p.start (words bs) in
      let all = length-map (take p.count l) reading in
      omega (arith, length-take p.count l, all, ap length stands.are, stands.count)

  finds : 0 < n → first (view_causes bs k n) ≡ none → strided (words bs) p.start n (div_ceil p.count n) ≡ view_of bs k n
  unfolding view_of
  finds h quiet =
      strided_every (words bs) p.start n p.count h there ∙ ap (every_nth n) stands.are ∙
      ap (λ cause. unless_refused cause (every_nth n (readings_of bs k))) (sym quiet)

-- what is read stays, and of a fault its cause is handed on
abbrev Maps : Result Contents Fault → Result Contents Refusal → Type 0
Maps r g = MatchResult r (λ x. g ≡ Ok x) (λ f. IsErrAnd g (λ y. number y ≡ fault_number f))

mapped : (r : Result Contents Fault) (g : Result Contents Refusal) → Maps r g → refusal g ≡ fault_in r
mapped (Ok x) g h = rw h refl
mapped (Err f) (Err y) h = ap some h
mapped (Err f) (Ok x) h = absurd h

kept : (r : Result Contents Fault) (g : Result Contents Refusal) (x : Contents) → Maps r g → g ≡ Ok x → r ≡ Ok x
kept (Ok y) g x h e = cc (sym h ∙ e)
kept (Err f) (Err y) x h e = cc
kept (Err f) (Ok y) x h e = absurd h

pub returns-in_err-contents : goal.returns-in_err-contents
returns-in_err-contents c =
    let a = c.args in
    let failed = err_from_is_err_and c.from_residual.result c.from_residual.ensures.1 in
    let cause = mapped c.read.result c.map_err.result c.map_err.ensures.cases ∙ c.read.ensures.reads.found in
    rw (failed.1, failed.2) (record {
      cause = sym (reader_first a.block.now a.k a.n (sym cause ∙ ap refusal c.in_err-contents.was));
      readings = tt;
    })

-- the block is accepted, and its knots are counted
module _ (c : In_ok-contents) where
  read : Reads (Ok c.in_ok-contents.contents) (first (block_causes c.args.block.now)) (list_of c.args.block.now)
  read = rw (kept c.read.result c.map_err.result c.in_ok-contents.contents c.map_err.ensures.cases c.in_ok-contents.was) at c.read.ensures.reads

  quiet : first (block_causes c.args.block.now) ≡ none
  quiet = sym read.found

  knots : length (list_of c.args.block.now) ≡ c.in_ok-contents.contents.count
  knots =
      let contents = c.in_ok-contents.contents in
      sym (ap length read.knots) ∙ length-scans (take contents.count contents.knots) ∙
      length-take-le contents.count contents.knots (omega (arith, contents.room, contents.few))

pub returns-then-contents-k : goal.returns-then-contents-k
returns-then-contents-k c =
    let a = c.args in
    let g = (goal.at.returns-then-contents-k c).In_ok-contents in
    record { cause = sym (knot-after_reader a.block.now a.k a.n (quiet g) (omega (arith, knots g))); readings = tt }

pub returns-then-n-eq0 : goal.returns-then-n-eq0
returns-then-n-eq0 c =
    let a = c.args in
    let g = (goal.at.returns-then-n-eq0 c).In_ok-contents in
    record { cause = sym (stride-after-knot a.block.now a.k a.n (quiet g) (omega (arith, knots g)) c.if-n-eq0.true); readings = tt }

pub returns : goal.returns
returns c =
    let a = c.args in
    let g = (goal.at.returns c).In_ok-contents in
    let none_holds = view_free a.block.now a.k a.n (quiet g) (omega (arith, knots g)) c.if-n-eq0.false in
    record {
      cause = sym none_holds;
      readings = rw c.div_ceil.ensures (finds a.block.now a.k a.n c.span_of-all.result c.span_of-all.ensures (omega arith) none_holds);
    }
