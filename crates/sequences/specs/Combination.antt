-- Request 4/14: "Its exact blends and totals are the same combination of theirs", and how far "its value differs from
-- αv + βv'", which 5/14 halves. Here it is about the calls as their functions' own contracts have them, on any held
-- reels.
use Rattle.std.specs.Prelude.{◌≡◌, ℕ, suc, ◌<◌, ℤ, ◌+ℤ◌, ◌*ℤ◌, length}
use Rattle.rounding.specs.Combination.{CombinedDistance}
use Rattle.scans.specs.Queries.{value_piece}
use Rattle.scans.specs.Combined.{a}
use Rattle.calls.specs.Calls.{Call, accepted, value, total}
use Rattle.calls.specs.Combination.{SumValues, SumReplies}
use Rattle.reel.specs.Machine.{reply_of, scans}
use Rattle.reel.specs.declared.held.Reel.{Reel}
use Rattle.reel.specs.declared.answer.Handed.{Handed}
use Rattle.reel.proofs.held.Reel.combine.Reads as combine-reads
use Rattle.sequences.specs.Called.{Outcome, Called}

-- what a call of the sum does: if what its function requires holds, then what it ensures does
abbrev pub CombineCalled : ℤ → ℤ → Reel → Reel → Handed → Type 0
CombineCalled α β given other sum =
    combine-reads.Pre tt (given, (α, (β, (other, tt)))) →
    combine-reads.Post tt (given, (α, (β, (other, tt)))) sum (given, (α, (β, (other, tt))))

-- one query of the one reel, of the other and of the sum, each by its own call: all three refuse with the same number,
-- or they answer three numbers of which `Law` holds
abbrev pub AskedOfAll : Call → (ℤ → ℤ → ℤ → Type 0) → Reel → Reel → Reel → Type 0
AskedOfAll query Law given other sum = (mine its both : Outcome) (given' other' sum' : Reel) →
    Called query given mine given' → Called query other its other' → Called query sum both sum' →
    SumReplies Law (reply_of mine.answer) (reply_of its.answer) (reply_of both.answer)

-- what 4/14 says of the reel of a sum
pub record SumOf (α β : ℤ) (given other sum : Reel) : Type 0 where
  -- each coefficient of each piece's exact blend
  pub blends : (k i : ℕ) → suc k < length (scans given) →
      a (scans sum) k i ≡ α *ℤ a (scans given) k i +ℤ β *ℤ a (scans other) k i
  -- the total of the sum is α × the one's + β × the other's, exactly
  pub totals : (i j : ℕ) → AskedOfAll (total i j) (λ t t' w. w ≡ α *ℤ t +ℤ β *ℤ t') given other sum
  -- its value differs from αv + βv' by at most (1+|α|+|β|) × (m+n+1), with m and n of the one's piece
  pub values : (x : ℕ) → AskedOfAll (value x) (CombinedDistance α β (value_piece (scans given) x)) given other sum

-- so it is wherever a sum of held reels is accepted
abbrev pub SumsOfReels : Type 0
SumsOfReels = (α β : ℤ) (given other : Reel) (added : Handed) →
    CombineCalled α β given other added → reply_of added.answer ≡ accepted → SumOf α β given other added.reel

-- a sum of any held reels is accepted; then at every query position a value of the one, a value of the other and a
-- value of the sum, each by its own call, satisfy `SumValues`, with m and n of the one's piece
abbrev pub ValuesOfSums : Type 0
ValuesOfSums = (α β : ℤ) (given other : Reel) (sum : Handed) →
    CombineCalled α β given other sum → reply_of sum.answer ≡ accepted →
    (x : ℕ) (mine its both : Outcome) (given' other' sum' : Reel) →
    Called (value x) given mine given' → Called (value x) other its other' → Called (value x) sum.reel both sum' →
    SumValues α β (value_piece (scans given) x) (reply_of mine.answer) (reply_of its.answer) (reply_of both.answer)
