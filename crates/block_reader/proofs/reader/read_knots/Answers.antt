-- One word more of a knot, one knot more, and each fault as the first of all.
use Rattle.std.proofs.Common.{true, [], ◌∷◌, ◌≡◌, ℕ, ◌+◌, ◌-◌, ◌≤◌, refl, sym, ◌∙◌, ap, ap₂, arith, drop, take, get_or, length}
use Rattle.std.proofs.Math.Option.{none}
use Rattle.std.proofs.lemmas.Result.{err_from_is_err_and}
use Rattle.rounding.specs.Limits.{grade_max}
use Rattle.scans.specs.Scan.{scan_of}
use Rattle.scans.specs.SizeRule.{append_products, first_too_large}
use Rattle.scans.specs.RefusalTable.{first, bad_form}
use Rattle.knot.specs.Machine.{too_large as spot_of}
use Rattle.knot.specs.declared.table.Refusal.TheVariants as Refusals
use Rattle.following.specs.Machine.{neighbour}
use Rattle.following.proofs.Neighbours.{own_list, lying_own}
use Rattle.block.specs.Fields.{kind, position, grade}
use Rattle.block.specs.Bytes.{words}
use Rattle.block.specs.Reading.{reading_words, knot_causes, reading_causes, end_causes}
use Rattle.block.proofs.Reason.{reading-others, end-others}
use Rattle.block_reader.proofs.reader.Come.{last, neighbour_last, Coefficients, AtWord, one_stored, word-found, from_wrong}
use Rattle.block_reader.proofs.reader.Come.{from-size-found, reason-found, from-readings-found, taken, at_end, all_listed, accepts, refuses, too_large}
use Rattle.block_reader.proofs.reader.read_knots.Goals as goal
use Rattle.block_reader.proofs.reader.read_knots.Goals.{After-grade-m, After-follow_reason, else-loop-j-test, then-loop-j-test+in-2+else-j-m}

-- the knot's word and its fields, after the knot that is lent
module _ (c : After-grade-m) where
  low : c.grade-m.result ≤ grade_max
  low = omega (arith, c.grade-m.ensures)

  last_is : neighbour c.last-last.result ≡ last c.loop-k.knots c.loop-k.k
  last_is = neighbour_last c.last-last.result c.loop-k.knots c.loop-k.k (omega (arith, c.loop-k.invariant.room)) c.last-last.ensures.value

  -- nothing is found of the word after the knot's position
  passed : none ≡ first (knot_causes (neighbour c.last-last.result) c.load-word.result)
  passed = rw (lying_own c.last-last.result c.neighbour_position.result c.neighbour_position.ensures)
      at (c.in_default.ensures (own_list c.last-last.result))

  word : (x : ℕ) → x ≡ position (get_or (words c.args.block.now) c.loop-k.i 0) →
      AtWord c.args.edition (words c.args.block.now) c.args.count c.loop-k.knots c.loop-k.k c.loop-k.i x c.grade-m.result
  word x x_is = record {
    come = c.loop-k.invariant;
    due = c.loop-k-test.true;
    passed = ap₂ (λ l w. first (knot_causes l w)) (sym last_is) (sym c.load-word.ensures.value) ∙ sym passed;
    x_is = x_is;
    m_is = c.grade-m.ensures ∙ ap grade c.load-word.ensures.value;
  }

pub follow_reason-requires-clause-close : goal.follow_reason-requires-clause-close
follow_reason-requires-clause-close c =
    let quiet = passed (goal.at.follow_reason-requires-clause-close c).After-grade-m in
    grind (arith, quiet, c.position.ensures)

pub loop-j-preserved : goal.loop-j-preserved
loop-j-preserved c =
    one_stored (words c.args.block.now) c.loop-k.i c.grade-m.result c.loop-j.coefficients c.loop-j.j c.load-word-in-loop-j.result c.payload.result
    c.loop-j.invariant c.loop-j-test.true (omega (arith, c.grade-m.ensures)) c.load-word-in-loop-j.ensures.value (sym c.kind.ensures ∙ c.in-2.is)
    (record { sfits = c.payload.type_inv }) c.payload.ensures

-- all its coefficients are read, and its size is tested
module _ (c : After-follow_reason) where
  read : Coefficients (words c.args.block.now) c.loop-k.i c.grade-m.result c.loop-j-test.coefficients (c.grade-m.result + 1)
  read = elim c.loop-j-test.branch [
    | else-loop-j-test w ↦
        let all : c.loop-j.j ≡ c.grade-m.result + 1 = omega (arith, c.loop-j.invariant.within) in
        rw (w.coefficients-is, ← all) c.loop-j.invariant
    | then-loop-j-test+in-2+else-j-m w ↦
        let all : c.grade-m.result + 1 ≡ c.loop-j.j + 1 = omega arith in
        rw (w.coefficients-is, all)
        (one_stored (words c.args.block.now) c.loop-k.i c.grade-m.result c.loop-j.coefficients c.loop-j.j w.load-word-in-loop-j.result w.payload.result
        c.loop-j.invariant w.loop-j-test.true (omega (arith, c.grade-m.ensures)) w.load-word-in-loop-j.ensures.value (sym w.kind.ensures ∙ w.in-2.is)
        (record { sfits = w.payload.type_inv }) w.payload.ensures)
  ]

  x_is : c.position.result ≡ position (get_or (words c.args.block.now) c.loop-k.i 0)
  x_is = c.position.ensures ∙ ap position c.load-word.ensures.value

  tested_as : neighbour c.last-last.result ≡ last c.loop-k.knots c.loop-k.k →
      first_too_large (append_products c.loop-k.k (last c.loop-k.knots c.loop-k.k)
      (scan_of c.position.result (take (c.grade-m.result + 1) c.loop-j-test.coefficients))) ≡ spot_of c.follow_reason.result
  tested_as is =
      ap (λ l. first_too_large (append_products c.loop-k.k l (scan_of c.position.result (take (c.grade-m.result + 1) c.loop-j-test.coefficients)))) (sym is) ∙
      sym c.follow_reason.ensures

pub loop-k-preserved : goal.loop-k-preserved
loop-k-preserved c =
    let at = goal.at.loop-k-preserved c in
    let shared = at.After-follow_reason in
    let counts = c.in-Ok.ensures in
    taken (word at.After-grade-m c.position.result (x_is shared)) (read shared)
    (tested_as shared (last_is at.After-grade-m) ∙ ap spot_of c.in_default-follow_reason.is) c.in-Ok.readings counts.count _ refl c.requires
    (low at.After-grade-m) counts.few (sym counts.fault)

pub returns-in_err-end_fault : goal.returns-in_err-end_fault
returns-in_err-end_fault c =
    let ws = words c.args.block.now in
    let failed = err_from_is_err_and c.from_residual.result c.from_residual.ensures.1 in
    let all : c.loop-k.k ≡ c.args.count = omega arith in
    let here = c.in_err-end_fault.ensures in
    rw (failed.1, failed.2)
    (refuses _ (end_causes (length ws - 1) (drop c.loop-k.i ws)) (end-others (length ws - 1) (drop c.loop-k.i ws)) here
    (at_end c.loop-k.invariant all ∙ sym here))

pub returns-in-Err : goal.returns-in-Err
returns-in-Err c =
    let is = neighbour_last c.last-last.result c.loop-k.knots c.loop-k.k (omega (arith, c.loop-k.invariant.room)) c.last-last.ensures.value in
    let lies = lying_own c.last-last.result c.neighbour_position.result c.neighbour_position.ensures ∙ is in
    let here = c.in-Err.ensures (own_list c.last-last.result) ∙ ap₂ (λ l w. first (knot_causes l w)) lies c.load-word.ensures.value in
    refuses c.in-Err.cause (knot_causes (last c.loop-k.knots c.loop-k.k) (get_or (words c.args.block.now) c.loop-k.i 0)) (refl, (refl, (refl, tt))) here
    (word-found c.loop-k.invariant c.loop-k-test.true (sym here))

pub returns-in_default-kind : goal.returns-in_default-kind
returns-in_default-kind c =
    let other : kind (get_or (words c.args.block.now) (c.loop-k.i + 1 + c.loop-j.j) 0) ≡ 2 → ⊥ = λ e.
    omega (arith, c.kind.ensures ∙ ap kind c.load-word-in-loop-j.ensures.value) in
    refuses Refusals.Form (bad_form true ∷ []) (refl, tt) refl
    (from_wrong (word (goal.at.returns-in_default-kind c).After-grade-m _ refl) c.loop-j.j c.loop-j.invariant c.loop-j-test.true other)

pub returns-in-Err-follow_reason : goal.returns-in-Err-follow_reason
returns-in-Err-follow_reason c =
    let at = goal.at.returns-in-Err-follow_reason c in
    let shared = at.After-follow_reason in
    let here = word at.After-grade-m c.position.result (x_is shared) in
    let found = tested_as shared (last_is at.After-grade-m) ∙ ap spot_of c.in-Err-follow_reason.is in
    too_large c.in-Err-follow_reason.spot (from-size-found here (read shared) found) (reason-found here (read shared) found)

pub returns-in-Err-count_readings : goal.returns-in-Err-count_readings
returns-in-Err-count_readings c =
    let at = goal.at.returns-in-Err-count_readings c in
    let shared = at.After-follow_reason in
    let readings = reading_words c.args.edition (drop (c.loop-k.i + c.grade-m.result + 2) (words c.args.block.now)) in
    let here = c.in-Err-count_readings.ensures.fault in
    refuses c.in-Err-count_readings.cause (reading_causes 0 readings) (reading-others 0 readings) here
    (from-readings-found (word at.After-grade-m c.position.result (x_is shared)) (read shared)
    (tested_as shared (last_is at.After-grade-m) ∙ ap spot_of c.in_default-follow_reason.is) (sym here))

pub returns-in_ok-end_fault : goal.returns-in_ok-end_fault
returns-in_ok-end_fault c =
    let all : c.loop-k.k ≡ c.args.count = omega arith in
    accepts _ (at_end c.loop-k.invariant all ∙ sym c.in_ok-end_fault.ensures) (all_listed c.loop-k.invariant all)
