-- After each test the rounds made and those still to make are all that were asked for.
use mathlib.Core.List.{List}
use mathlib.Core.Path.{◌≡◌}
use Prim.Native.Nat.{ℕ, ◌<◌}
use native.Mathlib.Omega.{arith}
use lib.IntN.{ℤ}
use Rattle.half_sum.specs.Machine.{Room}
use Rattle.half_sum.proofs.RunningSums.{Made, made_none, made_more, made-room, made_all, weights-room}
use Rattle.half_sum.proofs.running.rounds.Goals as goal
use Rattle.half_sum.proofs.running.rounds.Goals.{Start, Joined-due-ge8, Joined-due-ge4, Joined-due-ge2}
use Rattle.half_sum.proofs.running.rounds.Goals.{then-due-ge8, else-due-ge8, then-due-ge4, else-due-ge4, then-due-ge2, else-due-ge2}

-- first, since a test that lets fewer rounds be due than are made is wrong here
pub overflow_sub-due : goal.overflow_sub-due
overflow_sub-due c = omega arith

room : (c : Start) → Room c.args.count c.args.w.now
room c = weights-room c.args.count c.requires.0 c.requires.1

none : (c : Start) → Made c.args.w.now c.args.count c.args.w.now c.args.count
none c = made_none c.args.w.now c.args.count c.requires.1.count

same : {w₀ w v : List ℤ} {count due r n : ℕ} → Made w₀ count v r → w ≡ v → due ≡ r → r < n → Made w₀ count w due × (due < n)
same made e f h = rw (e, f) (made, h)

-- after each test
after-8 : (c : Joined-due-ge8) → Made c.args.w.now c.args.count c.args.w.now c.args.count →
    Made c.args.w.now c.args.count c.if-due-ge8.w c.if-due-ge8.due × (c.if-due-ge8.due < 8)
after-8 c a = elim c.if-due-ge8.branch [
  | then-due-ge8 w ↦ same (made_more a 8 w.if-due-ge8.true w.eight_rounds.ensures) w.w-is w.due-is (omega arith)
  | else-due-ge8 w ↦ same a w.w-is w.due-is w.if-due-ge8.false
]

after-4 : (c : Joined-due-ge4) → Made c.args.w.now c.args.count c.if-due-ge8.w c.if-due-ge8.due × (c.if-due-ge8.due < 8) →
    Made c.args.w.now c.args.count c.if-due-ge4.w c.if-due-ge4.due × (c.if-due-ge4.due < 4)
after-4 c a = elim c.if-due-ge4.branch [
  | then-due-ge4 w ↦ same (made_more a.0 4 w.if-due-ge4.true w.four_rounds.ensures) w.w-is w.due-is (omega (arith, a.1))
  | else-due-ge4 w ↦ same a.0 w.w-is w.due-is w.if-due-ge4.false
]

after-2 : (c : Joined-due-ge2) → Made c.args.w.now c.args.count c.if-due-ge4.w c.if-due-ge4.due × (c.if-due-ge4.due < 4) →
    Made c.args.w.now c.args.count c.if-due-ge2.w c.if-due-ge2.due × (c.if-due-ge2.due < 2)
after-2 c a = elim c.if-due-ge2.branch [
  | then-due-ge2 w ↦ same (made_more a.0 2 w.if-due-ge2.true w.two_rounds.ensures) w.w-is w.due-is (omega (arith, a.1))
  | else-due-ge2 w ↦ same a.0 w.w-is w.due-is w.if-due-ge2.false
]

pub eight_rounds-requires : goal.eight_rounds-requires
eight_rounds-requires c =
    let p = goal.at.eight_rounds-requires c in
    made-room (none p.Start) 8 c.if-due-ge8.true (room p.Start)

pub four_rounds-requires : goal.four_rounds-requires
four_rounds-requires c =
    let p = goal.at.four_rounds-requires c in
    made-room (after-8 p.Joined-due-ge8 (none p.Start)).0 4 c.if-due-ge4.true (room p.Start)

pub two_rounds-requires : goal.two_rounds-requires
two_rounds-requires c =
    let p = goal.at.two_rounds-requires c in
    let a = after-4 p.Joined-due-ge4 (after-8 p.Joined-due-ge8 (none p.Start)) in
    made-room a.0 2 c.if-due-ge2.true (room p.Start)

pub one_round-requires : goal.one_round-requires
one_round-requires c =
    let p = goal.at.one_round-requires c in
    let a = after-2 p.Joined-due-ge2 (after-4 p.Joined-due-ge4 (after-8 p.Joined-due-ge8 (none p.Start))) in
    made-room a.0 1 c.if-due-ge1.true (room p.Start)

pub returns-then-due-ge1 : goal.returns-then-due-ge1
returns-then-due-ge1 c =
    let p = goal.at.returns-then-due-ge1 c in
    let a = after-2 p.Joined-due-ge2 (after-4 p.Joined-due-ge4 (after-8 p.Joined-due-ge8 (none p.Start))) in
    made_all (made_more a.0 1 c.if-due-ge1.true c.one_round.ensures) (omega (arith, a.1))

pub returns-else-due-ge1 : goal.returns-else-due-ge1
returns-else-due-ge1 c =
    let p = goal.at.returns-else-due-ge1 c in
    let a = after-2 p.Joined-due-ge2 (after-4 p.Joined-due-ge4 (after-8 p.Joined-due-ge8 (none p.Start))) in
    made_all a.0 (omega arith)
