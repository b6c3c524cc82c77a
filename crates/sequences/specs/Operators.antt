-- Request 1/14: "two accepted blocks that differ only in readings and end count give the operator the same answers".
use Rattle.std.specs.Prelude.{List, [], ◌∷◌, ◌≡◌, ℕ}
use Rattle.block.specs.View.{Alike}
use Rattle.calls.specs.Calls.{Call, Reply, read}
use Rattle.reel.specs.Machine.{reply_of, scans}
use Rattle.reel.specs.declared.held.Reel.{Reel}
use Rattle.sequences.specs.Runs.{Run, done, then}
use Rattle.sequences.specs.Called.{Called}

-- two sequences of calls: the same, but that a read may bring one or the other of two such blocks
pub data AlikeCalls : List Call → List Call → Type 0 where
  none_left : AlikeCalls [] []
  same-call : {calls others : List Call} (call : Call) → AlikeCalls calls others →
      AlikeCalls (call ∷ calls) (call ∷ others)
  alike_reads : {calls others : List Call} (bytes other : List ℕ) → Alike bytes other → AlikeCalls calls others →
      AlikeCalls (read bytes ∷ calls) (read other ∷ others)

-- the answers of a run: of each call its reply, and a lent output as the call leaves it
abbrev pub answers : {given : Reel} {calls : List Call} → Run Called given calls → List (Reply × List ℕ)
answers done = []
answers (then outcome handed does run) = (reply_of outcome.answer, outcome.output) ∷ answers run

-- from held reels with the same scans two such sequences get the same answers
abbrev pub SameAnswers : Type 0
SameAnswers = (calls others : List Call) → AlikeCalls calls others → (one other : Reel) →
    scans one ≡ scans other → (run : Run Called one calls) (again : Run Called other others) →
    answers run ≡ answers again
