-- Request 6/14, about what the calls answer: the reason that a question gives is that of the call with its arguments.
-- Both are as their functions' own contracts have them, on any held reels.
use contract.Lifetimes.{Lfts}
use Rattle.std.specs.Borrow.{Bor}
use Rattle.std.specs.Prelude.{List, ℕ, ℤ, Option}
use Rattle.knot.specs.Machine.{spot_in}
use Rattle.knot.specs.declared.reason.Spot.{Spot}
use Rattle.scans.specs.Combination.{combination}
use Rattle.calls.specs.Calls.{Call, append, correct, read, changed}
use Rattle.calls.specs.Reason.{tested, sum_tested, Reasoned}
use Rattle.reel.specs.Machine.{reply_of, scans}
use Rattle.reel.specs.declared.held.Reel.{Reel}
use Rattle.reel.specs.declared.answer.Handed.{Handed}
use Rattle.reel.proofs.held.Reel.append_reason.Reads as append-reason-reads
use Rattle.reel.proofs.held.Reel.correct_reason.Reads as correct-reason-reads
use Rattle.reel.proofs.held.Reel.read_reason.Reads as read-reason-reads
use Rattle.reel.proofs.held.Reel.combine_reason.Reads as combine-reason-reads
use Rattle.sequences.specs.Called.{Outcome, Called}
use Rattle.sequences.specs.Combination.{CombineCalled}

-- what the question beside a call does: if what its function requires holds, then what it ensures does
pub data Asked : Call → Reel → Option Spot → Type 0 where
  of_append : (κs : Lfts 1) (given : Reel) (x : ℕ) (C : Bor (List ℤ)) (reason : Option Spot) →
      (append-reason-reads.Pre κs (given, (x, (C, tt))) →
      append-reason-reads.Post κs (given, (x, (C, tt))) reason (given, (x, (C, tt)))) →
      Asked (append x C.now) given reason
  of_correct : (κs : Lfts 1) (given : Reel) (k : ℕ) (C : Bor (List ℤ)) (reason : Option Spot) →
      (correct-reason-reads.Pre κs (given, (k, (C, tt))) →
      correct-reason-reads.Post κs (given, (k, (C, tt))) reason (given, (k, (C, tt)))) →
      Asked (correct k C.now) given reason
  of_read : (κs : Lfts 1) (given : Reel) (bytes : Bor (List ℕ)) (reason : Option Spot) →
      (read-reason-reads.Pre κs (given, (bytes, tt)) →
      read-reason-reads.Post κs (given, (bytes, tt)) reason (given, (bytes, tt))) →
      Asked (read bytes.now) given reason

-- and that beside a sum
abbrev pub SumAsked : ℤ → ℤ → Reel → Reel → Option Spot → Type 0
SumAsked α β given other reason =
    combine-reason-reads.Pre tt (given, (α, (β, (other, tt)))) →
    combine-reason-reads.Post tt (given, (α, (β, (other, tt)))) reason (given, (α, (β, (other, tt))))

-- of a held reel, a call and the question beside it: there is a reason exactly where the call answers 6, and it names
-- the first product of the call that exceeds the limit (`Reasoned`); both are asked of the reel as it is given
pub record ReasonsOfAnswers : Type 0 where
  pub calls : (call : Call) (given handed : Reel) (outcome : Outcome) (reason : Option Spot) →
      Called call given outcome handed → Asked call given reason →
      Reasoned (tested call (scans given)) (changed call (scans given)) (reply_of outcome.answer) (spot_in reason)
  pub sums : (α β : ℤ) (given other : Reel) (sum : Handed) (reason : Option Spot) →
      CombineCalled α β given other sum → SumAsked α β given other reason →
      Reasoned (sum_tested α β (scans given) (scans other)) (combination α β (scans given) (scans other))
      (reply_of sum.answer) (spot_in reason)
