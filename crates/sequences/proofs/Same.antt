-- Request 7/14: what same says of two reels' scans, and of what two writes put out, over the functions' own contracts.
use mathlib.Core.Path.{◌≡◌, sym, ◌∙◌, ap}
use lib.ListN.{take}
use Rattle.block.specs.Block.{block}
use Rattle.calls.proofs.RoundTrips.{front_is}
use Rattle.calls.proofs.Same.{same_laws}
use Rattle.reel.specs.Machine.{scans}
use Rattle.reel.proofs.Scans.{stands}
use Rattle.reel.proofs.Contracts.{same-says}
use Rattle.sequences.specs.Same.{SameScans, SameWritten}
use Rattle.sequences.proofs.Called.{called_does}

pub same-scans : SameScans
same-scans given other says asks =
    let says_is = same-says given other says asks in
    let laws = same_laws (scans given) (scans other) in
    record { of_yes = λ e. laws.yes_equal (sym says_is ∙ e); of_equal = λ e. says_is ∙ laws.equal_yes e }

pub same-written : SameWritten
same-written given other given' other' says mine its out out' n n' asks writes answer writes-other answer-other =
    let w = called_does writes in
    let w' = called_does writes-other in
    let front : take n mine.output ≡ block (scans given) =
    ap (take n) w.writes ∙ front_is (scans given) out n (sym w.replies ∙ answer) in
    let front' : take n' its.output ≡ block (scans other) =
    ap (take n') w'.writes ∙ front_is (scans other) out' n' (sym w'.replies ∙ answer-other) in
    let says_is = same-says given other says asks in
    let laws = same_laws (scans given) (scans other) in
    record {
      of_yes = λ e. front ∙ laws.yes_bytes (sym says_is ∙ e) ∙ sym front';
      of_equal = λ e. says_is ∙ laws.bytes_yes (stands given) (stands other) (sym front ∙ e ∙ front');
    }
