-- Request 7/14 about what the calls hand over, as their functions' own contracts have them, on any held reels.
use Rattle.std.specs.Prelude.{Bool, true, List, ◌≡◌, ℕ, pos, take}
use Rattle.calls.specs.Calls.{number, write}
use Rattle.reel.specs.Machine.{reply_of, scans}
use Rattle.reel.specs.declared.held.Reel.{Reel}
use Rattle.reel.proofs.held.Reel.same.Reads as same_Reads
use Rattle.sequences.specs.Called.{Outcome, Called}

-- what a call of same does: if what its function requires holds, then what it ensures does
abbrev pub SameCalled : Reel → Reel → Bool → Type 0
SameCalled given other says =
    same_Reads.Pre tt (given, (other, tt)) → same_Reads.Post tt (given, (other, tt)) says (given, (other, tt))

-- same says yes exactly when these two things are equal
pub record TellsEqual (says : Bool) {A : Type 0} (one another : A) : Type 0 where
  pub of_yes : says ≡ true → one ≡ another
  pub of_equal : one ≡ another → says ≡ true

-- of any two held reels it tells whether their scans are equal: knot counts, positions, grades and all coefficients.
-- What the free places of their arrays hold does not matter
abbrev pub SameScans : Type 0
SameScans = (given other : Reel) (says : Bool) →
    SameCalled given other says → TellsEqual says (scans given) (scans other)

-- "which is when the written bytes agree": of any two held reels, where a write of each, into any output, answers a
-- number, it tells whether the first n bytes of the one output are the first n' bytes of the other, n and n' being
-- these numbers
abbrev pub SameWritten : Type 0
SameWritten = (given other given' other' : Reel) (says : Bool) (mine its : Outcome) (out out' : List ℕ) (n n' : ℕ) →
    SameCalled given other says →
    Called (write out) given mine given' → reply_of mine.answer ≡ number (pos n) →
    Called (write out') other its other' → reply_of its.answer ≡ number (pos n') →
    TellsEqual says (take n mine.output) (take n' its.output)
