-- The contract of each call of a sequence is `Does` of that call. So are those of same, of the sum and of the questions for a reason what is
-- promised of them. A contract that says less is refused here.
use contract.Lifetimes.{Lfts}
use Rattle.std.specs.Borrow.{Bor, MutBor}
use Rattle.std.specs.Prelude.{Option}
use mathlib.Core.Bool.{Bool}
use mathlib.Core.List.{List, []}
use mathlib.Core.Path.{◌≡◌}
use Prim.Native.Nat.{ℕ}
use lib.IntN.{ℤ}
use Rattle.block.specs.Block.{plain_edition, block}
use Rattle.block.specs.Reading.{edition_of}
use Rattle.knot.specs.Machine.{spot_in}
use Rattle.knot.specs.declared.reason.Spot.{Spot}
use Rattle.calls.specs.Calls.{accepted, clear, append, correct, read, write, value, trend, total}
use Rattle.calls.specs.Same.{same}
use Rattle.calls.specs.Reason.{reason_for, sum_reason}
use Rattle.reel.specs.Machine.{scans, reply_of, Does, Combines}
use Rattle.reel.specs.declared.held.Reel.{Reel}
use Rattle.reel.specs.declared.answer.Handed.{Handed}
use Rattle.reel.proofs.held.Reel.empty.Reads as empty-reads
use Rattle.reel.proofs.held.Reel.clear.Reads as clear_reads
use Rattle.reel.proofs.held.Reel.append.Reads as append-reads
use Rattle.reel.proofs.held.Reel.correct.Reads as correct-reads
use Rattle.reel.proofs.held.Reel.read.Reads as read-reads
use Rattle.reel.proofs.held.Reel.write.Reads as write-reads
use Rattle.reel.proofs.held.Reel.value.Reads as value-reads
use Rattle.reel.proofs.held.Reel.trend.Reads as trend-reads
use Rattle.reel.proofs.held.Reel.total.Reads as total-reads
use Rattle.reel.proofs.held.Reel.same.Reads as same_Reads
use Rattle.reel.proofs.held.Reel.combine.Reads as combine-reads
use Rattle.reel.proofs.held.Reel.append_reason.Reads as append-reason-reads
use Rattle.reel.proofs.held.Reel.correct_reason.Reads as correct-reason-reads
use Rattle.reel.proofs.held.Reel.read_reason.Reads as read-reason-reads
use Rattle.reel.proofs.held.Reel.combine_reason.Reads as combine-reason-reads

-- what a sequence begins with
pub empty_is : (begin : Reel) → empty-reads.Post tt tt begin tt → scans begin ≡ []
empty_is begin post = post.0

module _ (given : Reel) (handed : Handed) where
  pub clear_does : (clear_reads.Pre tt (given, tt) → clear_reads.Post tt (given, tt) handed (given, tt)) → Does clear given handed.answer handed.reel []
  clear_does contract = contract tt

  pub append_does : (κs : Lfts 1) (x : ℕ) (C : Bor (List ℤ)) →
      (append-reads.Pre κs (given, (x, (C, tt))) → append-reads.Post κs (given, (x, (C, tt))) handed (given, (x, (C, tt)))) →
      Does (append x C.now) given handed.answer handed.reel []
  append_does κs x C contract = contract tt

  pub correct_does : (κs : Lfts 1) (k : ℕ) (C : Bor (List ℤ)) →
      (correct-reads.Pre κs (given, (k, (C, tt))) → correct-reads.Post κs (given, (k, (C, tt))) handed (given, (k, (C, tt)))) →
      Does (correct k C.now) given handed.answer handed.reel []
  correct_does κs k C contract = contract tt

  pub read_does : (κs : Lfts 1) (bytes : Bor (List ℕ)) →
      (read-reads.Pre κs (given, (bytes, tt)) → read-reads.Post κs (given, (bytes, tt)) handed (given, (bytes, tt))) →
      Does (read bytes.now) given handed.answer handed.reel []
  read_does κs bytes contract = (contract tt).0

  -- an accepted block of edition 1 is the block of its list
  pub read_again : (κs : Lfts 1) (bytes : Bor (List ℕ)) →
      (read-reads.Pre κs (given, (bytes, tt)) → read-reads.Post κs (given, (bytes, tt)) handed (given, (bytes, tt))) →
      reply_of handed.answer ≡ accepted → edition_of bytes.now ≡ plain_edition → block (scans handed.reel) ≡ bytes.now
  read_again κs bytes contract = (contract tt).1

  pub write_does : (κs : Lfts 1) (out after : MutBor (List ℕ)) →
      (write-reads.Pre κs (given, (out, tt)) → write-reads.Post κs (given, (out, tt)) handed (given, (after, tt))) →
      Does (write out.now) given handed.answer handed.reel after.now
  write_does κs out after contract = contract tt

  pub value_does : (x : ℕ) → (value-reads.Pre tt (given, (x, tt)) → value-reads.Post tt (given, (x, tt)) handed (given, (x, tt))) →
      Does (value x) given handed.answer handed.reel []
  value_does x contract = contract tt

  pub trend_does : (x : ℕ) → (trend-reads.Pre tt (given, (x, tt)) → trend-reads.Post tt (given, (x, tt)) handed (given, (x, tt))) →
      Does (trend x) given handed.answer handed.reel []
  trend_does x contract = contract tt

  pub total_does : (i j : ℕ) → (total-reads.Pre tt (given, (i, (j, tt))) → total-reads.Post tt (given, (i, (j, tt))) handed (given, (i, (j, tt)))) →
      Does (total i j) given handed.answer handed.reel []
  total_does i j contract = contract tt

-- and that of same, which is no call of a sequence, is that its yes or no is the model's
pub same-says : (given other : Reel) (says : Bool) →
    (same_Reads.Pre tt (given, (other, tt)) → same_Reads.Post tt (given, (other, tt)) says (given, (other, tt))) →
    says ≡ same (scans given) (scans other)
same-says given other says contract = contract tt

-- and that of the sum, which is none either, is `Combines`
pub combine_combines : (α β : ℤ) (given other : Reel) (handed : Handed) →
    (combine-reads.Pre tt (given, (α, (β, (other, tt)))) →
    combine-reads.Post tt (given, (α, (β, (other, tt)))) handed (given, (α, (β, (other, tt))))) →
    Combines α β given other handed.answer handed.reel
combine_combines α β given other handed contract = contract tt

-- and that of each question is that its reason is the model's
module _ (given : Reel) (reason : Option Spot) where
  pub append_reasons : (κs : Lfts 1) (x : ℕ) (C : Bor (List ℤ)) →
      (append-reason-reads.Pre κs (given, (x, (C, tt))) → append-reason-reads.Post κs (given, (x, (C, tt))) reason (given, (x, (C, tt)))) →
      spot_in reason ≡ reason_for (append x C.now) (scans given)
  append_reasons κs x C contract = contract tt

  pub correct_reasons : (κs : Lfts 1) (k : ℕ) (C : Bor (List ℤ)) →
      (correct-reason-reads.Pre κs (given, (k, (C, tt))) → correct-reason-reads.Post κs (given, (k, (C, tt))) reason (given, (k, (C, tt)))) →
      spot_in reason ≡ reason_for (correct k C.now) (scans given)
  correct_reasons κs k C contract = contract tt

  pub read_reasons : (κs : Lfts 1) (bytes : Bor (List ℕ)) →
      (read-reason-reads.Pre κs (given, (bytes, tt)) → read-reason-reads.Post κs (given, (bytes, tt)) reason (given, (bytes, tt))) →
      spot_in reason ≡ reason_for (read bytes.now) (scans given)
  read_reasons κs bytes contract = contract tt

  pub combine_reasons : (α β : ℤ) (other : Reel) →
      (combine-reason-reads.Pre tt (given, (α, (β, (other, tt)))) →
      combine-reason-reads.Post tt (given, (α, (β, (other, tt)))) reason (given, (α, (β, (other, tt))))) →
      spot_in reason ≡ sum_reason α β (scans given) (scans other)
  combine_reasons α β other contract = contract tt
