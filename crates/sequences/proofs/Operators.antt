-- Request 1/14: the answers of a run are the model's, and the model reads two such blocks alike.
use mathlib.Core.List.{List, [], ◌∷◌}
use mathlib.Core.Option.{none}
use mathlib.Core.Path.{◌≡◌, refl, sym, ◌∙◌, ap, ap₂}
use Prim.Native.Nat.{ℕ}
use Rattle.scans.specs.Scan.{Scan}
use Rattle.scans.specs.RefusalTable.{first}
use Rattle.block.specs.Reading.{block_causes, list_of}
use Rattle.block.proofs.Operators.{alike-lists}
use Rattle.calls.specs.Calls.{Call, Reply, accepted, read, reply_to, standing_after, output}
use Rattle.reel.specs.Machine.{scans}
use Rattle.reel.specs.declared.held.Reel.{Reel}
use Rattle.sequences.specs.Runs.{Run, done, then}
use Rattle.sequences.specs.Called.{Called}
use Rattle.sequences.specs.Operators.{AlikeCalls, none_left, same-call, alike_reads, answers, SameAnswers}
use Rattle.sequences.proofs.Called.{called_does}

-- what the model answers to these calls, where these scans stand
abbrev told : List Call → List Scan → List (Reply × List ℕ)
told [] standing = []
told (call ∷ calls) standing = (reply_to call standing, output call standing) ∷ told calls (standing_after call standing)

answers-are : {given : Reel} {calls : List Call} (run : Run Called given calls) → answers run ≡ told calls (scans given)
answers-are done = refl
answers-are (then {given = given} {action = call} {others = calls} outcome handed does run) =
    let d = called_does does in
    ap₂ (λ a later. a ∷ later) (ap₂ (λ r o. (r, o)) d.replies d.writes) (answers-are run ∙ ap (told calls) d.leaves)

-- from an accepted read on
told-read : (bytes : List ℕ) (calls : List Call) (standing : List Scan) → first (block_causes bytes) ≡ none →
    told (read bytes ∷ calls) standing ≡ (accepted, []) ∷ told calls (list_of bytes)
unfolding reply_to standing_after output
told-read bytes calls standing quiet = rw quiet refl

told-alike : {calls others : List Call} → AlikeCalls calls others → (standing : List Scan) → told calls standing ≡ told others standing
told-alike none_left standing = refl
told-alike (same-call call rest) standing = ap (λ later. (reply_to call standing, output call standing) ∷ later) (told-alike rest (standing_after call standing))
told-alike (alike_reads {calls = calls} {others = others} bytes other alike rest) standing =
    told-read bytes calls standing alike.one_accepted ∙
    ap (λ later. (accepted, []) ∷ later) (told-alike rest (list_of bytes) ∙ ap (told others) (alike-lists bytes other alike)) ∙
    sym (told-read other others standing alike.other_accepted)

pub same-answers : SameAnswers
same-answers calls others alike one other same run again =
    answers-are run ∙ told-alike alike (scans one) ∙ ap (told others) same ∙ sym (answers-are again)
