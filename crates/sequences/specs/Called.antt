-- Document 01, "Sequences and standing scans": its calls, each as far as its function's own contract says.
use contract.Lifetimes.{Lfts}
use Rattle.std.specs.Borrow.{Bor, MutBor}
use Rattle.std.specs.Prelude.{List, [], ℕ, ℤ}
use Rattle.calls.specs.Calls.{Call, clear, append, correct, read, write, value, trend, total}
use Rattle.reel.specs.declared.held.Reel.{Reel}
use Rattle.reel.specs.declared.answer.Answer.{Answer}
use Rattle.reel.specs.declared.answer.Handed.{Handed}
use Rattle.reel.proofs.held.Reel.clear.Reads as clear_reads
use Rattle.reel.proofs.held.Reel.append.Reads as append-reads
use Rattle.reel.proofs.held.Reel.correct.Reads as correct-reads
use Rattle.reel.proofs.held.Reel.read.Reads as read-reads
use Rattle.reel.proofs.held.Reel.write.Reads as write-reads
use Rattle.reel.proofs.held.Reel.value.Reads as value-reads
use Rattle.reel.proofs.held.Reel.trend.Reads as trend-reads
use Rattle.reel.proofs.held.Reel.total.Reads as total-reads

-- what comes of a call beside the reel: its answer, and a lent output as it leaves it, or no bytes
pub record Outcome : Type 0 where
  pub answer : Answer
  pub output : List ℕ

abbrev pub outcome : Handed → List ℕ → Outcome
outcome handed out = record { answer = handed.answer; output = out }

-- what one call does: if what its function requires holds (`Pre`), then what it ensures does (`Post`). Their
-- arguments are the function's, its result, and its arguments once more as it leaves them; `tt` ends a list of
-- arguments, and `κs` is how long a lent slice lives. Document 01: "Each read brings a block of its own and each write
-- an output of its own": `now` of a slice is what it holds, of the output before the call (`out`) and after it
-- (`after`)
pub data Called : Call → Reel → Outcome → Reel → Type 0 where
  by_clear : (given : Reel) (handed : Handed) →
      (clear_reads.Pre tt (given, tt) →
      clear_reads.Post tt (given, tt) handed (given, tt)) →
      Called clear given (outcome handed []) handed.reel
  by_append : (κs : Lfts 1) (given : Reel) (x : ℕ) (C : Bor (List ℤ)) (handed : Handed) →
      (append-reads.Pre κs (given, (x, (C, tt))) →
      append-reads.Post κs (given, (x, (C, tt))) handed (given, (x, (C, tt)))) →
      Called (append x C.now) given (outcome handed []) handed.reel
  by_correct : (κs : Lfts 1) (given : Reel) (k : ℕ) (C : Bor (List ℤ)) (handed : Handed) →
      (correct-reads.Pre κs (given, (k, (C, tt))) →
      correct-reads.Post κs (given, (k, (C, tt))) handed (given, (k, (C, tt)))) →
      Called (correct k C.now) given (outcome handed []) handed.reel
  by_read : (κs : Lfts 1) (given : Reel) (bytes : Bor (List ℕ)) (handed : Handed) →
      (read-reads.Pre κs (given, (bytes, tt)) →
      read-reads.Post κs (given, (bytes, tt)) handed (given, (bytes, tt))) →
      Called (read bytes.now) given (outcome handed []) handed.reel
  by_write : (κs : Lfts 1) (given : Reel) (out after : MutBor (List ℕ)) (handed : Handed) →
      (write-reads.Pre κs (given, (out, tt)) →
      write-reads.Post κs (given, (out, tt)) handed (given, (after, tt))) →
      Called (write out.now) given (outcome handed after.now) handed.reel
  by_value : (given : Reel) (x : ℕ) (handed : Handed) →
      (value-reads.Pre tt (given, (x, tt)) →
      value-reads.Post tt (given, (x, tt)) handed (given, (x, tt))) →
      Called (value x) given (outcome handed []) handed.reel
  by_trend : (given : Reel) (x : ℕ) (handed : Handed) →
      (trend-reads.Pre tt (given, (x, tt)) →
      trend-reads.Post tt (given, (x, tt)) handed (given, (x, tt))) →
      Called (trend x) given (outcome handed []) handed.reel
  by_total : (given : Reel) (i j : ℕ) (handed : Handed) →
      (total-reads.Pre tt (given, (i, (j, tt))) →
      total-reads.Post tt (given, (i, (j, tt))) handed (given, (i, (j, tt)))) →
      Called (total i j) given (outcome handed []) handed.reel
