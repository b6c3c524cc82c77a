-- Demand 3: every sequence of calls from the empty reel, over the functions' own contracts.
use mathlib.Core.List.{List, []}
use mathlib.Core.Path.{◌≡◌, sym, ◌∙◌, ap}
use Rattle.scans.specs.Scan.{Scan}
use Rattle.scans.specs.Standing.{Standing}
use Rattle.scans.proofs.Distances.{taylor_of}
use Rattle.calls.specs.Calls.{Call, reply_to, standing_after, output}
use Rattle.calls.proofs.Standing.{standing-after}
use Rattle.calls.proofs.Replies.{value-close, trend-close, total_is_exact}
use Rattle.reel.specs.Machine.{scans, Does}
use Rattle.reel.proofs.Scans.{stands}
use Rattle.reel.specs.declared.held.Reel.{Reel}
use Rattle.reel.proofs.Contracts.{empty_is}
use Rattle.sequences.specs.Called.{Outcome, Called}
use Rattle.sequences.specs.Sequences.{Right, Sequences}
use Rattle.sequences.proofs.Runs.{every_call}
use Rattle.sequences.proofs.Called.{called_does}

-- of a call on a reel, all that demand 3 says
right : {call : Call} {given handed : Reel} {outcome : Outcome} (standing : List Scan) → Standing standing →
    scans given ≡ standing → Does call given outcome.answer handed outcome.output → Right call standing outcome handed
right {call = call} standing st e does =
    let replies = does.replies ∙ ap (reply_to call) e in
    record {
      replies = replies;
      leaves = does.leaves ∙ ap (standing_after call) e;
      writes = does.writes ∙ ap (output call) e;
      values = λ x v c a. value-close standing st x v (ap (λ k. reply_to k standing) (sym c) ∙ sym replies ∙ a);
      trends = λ x z c a. trend-close standing st x z (ap (λ k. reply_to k standing) (sym c) ∙ sym replies ∙ a);
      totals = λ i j t c a. total_is_exact standing st i j t (ap (λ k. reply_to k standing) (sym c) ∙ sym replies ∙ a);
      ends = taylor_of standing st;
      ends_then = taylor_of (standing_after call standing) (standing-after call standing st);
    }

-- the reel's scans are those that stand
abbrev Matches : Reel → List Scan → Type 0
Matches r standing = scans r ≡ standing

-- one call
step : (call : Call) (given : Reel) (outcome : Outcome) (handed : Reel) (standing : List Scan) →
    Called call given outcome handed → Matches given standing →
    Right call standing outcome handed × Matches handed (standing_after call standing)
step call given outcome handed standing called matches =
    let holds = right standing (rw matches at (stands given)) matches (called_does called) in
    (holds, holds.leaves)

pub sequences : Sequences
sequences begin calls empty run = every_call Matches step run [] (empty_is begin empty)
