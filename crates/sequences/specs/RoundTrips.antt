-- Demand 2: "A written block read back gives the same reel, and an accepted block written again gives the same bytes";
-- by request 1/14 the second "is then a matter of edition 1 blocks". Both are about the calls as their functions' own
-- contracts have them (`Called`), on any held reels.
use Rattle.std.specs.Prelude.{List, ◌++◌, ◌≡◌, ℕ, ◌≤◌, pos, length, take, drop}
use Rattle.block.specs.Block.{plain_edition}
use Rattle.block.specs.Reading.{edition_of}
use Rattle.calls.specs.Calls.{accepted, number, read, write}
use Rattle.reel.specs.Machine.{reply_of, scans}
use Rattle.reel.specs.declared.held.Reel.{Reel}
use Rattle.sequences.specs.Called.{Outcome, Called}

-- a read accepts, and the reel `back` that it hands back has the scans of the reel `given`, which was written
pub record ReadBack (outcome : Outcome) (back given : Reel) : Type 0 where
  pub accepts : reply_of outcome.answer ≡ accepted
  pub leaves : scans back ≡ scans given

-- the first: a write of any held reel into any output answers a number n; then any read, by any held reel, of the first
-- n bytes of that output satisfies `ReadBack`
abbrev pub WriteRead : Type 0
WriteRead = (given handed other back : Reel) (wrote outcome : Outcome) (out : List ℕ) (n : ℕ) →
    Called (write out) given wrote handed → reply_of wrote.answer ≡ number (pos n) →
    Called (read (take n wrote.output)) other outcome back → ReadBack outcome back given

-- into an output with room for these bytes, a write answers their number; they stand first in the output, and the bytes
-- after them are as they were
pub record WrittenAgain (bytes out : List ℕ) (outcome : Outcome) : Type 0 where
  pub counts : length bytes ≤ length out → reply_of outcome.answer ≡ number (pos (length bytes))
  pub puts : length bytes ≤ length out → outcome.output ≡ bytes ++ drop (length bytes) out

-- the second: a read by any held reel accepts these bytes, of edition 1; then any write, into any output, of the reel
-- that it hands back satisfies `WrittenAgain`
abbrev pub ReadWrite : Type 0
ReadWrite = (given handed back : Reel) (taken outcome : Outcome) (bytes out : List ℕ) →
    Called (read bytes) given taken handed → reply_of taken.answer ≡ accepted →
    edition_of bytes ≡ plain_edition → Called (write out) handed outcome back → WrittenAgain bytes out outcome
