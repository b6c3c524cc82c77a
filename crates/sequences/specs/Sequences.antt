-- Demand 3, whole: what holds at every call of every sequence from the empty reel.
use Rattle.std.specs.Prelude.{List, [], ◌≡◌, ℕ, suc, ◌<◌, ℤ, length}
use Rattle.rounding.specs.Value.{ValueDistance}
use Rattle.rounding.specs.Trend.{TrendDistance}
use Rattle.rounding.specs.Taylor.{Taylor}
use Rattle.scans.specs.Scan.{Scan}
use Rattle.scans.specs.Pieces.{piece_of, value_place, trend_place}
use Rattle.scans.specs.Queries.{value_piece, trend_piece, integral_over}
use Rattle.calls.specs.Calls.{Call, value, trend, total, number, reply_to, standing_after, output}
use Rattle.reel.specs.Machine.{scans, reply_of}
use Rattle.reel.specs.declared.held.Reel.{Reel}
use Rattle.reel.proofs.held.Reel.empty.Reads as empty-reads
use Rattle.sequences.specs.Runs.{Run, EveryCall}
use Rattle.sequences.specs.Called.{Outcome, Called}

-- what demand 3 says of one call, with the scans that stand before it
pub record Right (call : Call) (standing : List Scan) (outcome : Outcome) (handed : Reel) : Type 0 where
  -- it answers, or refuses, exactly as document 01 says of the standing scans
  pub replies : reply_of outcome.answer ≡ reply_to call standing
  -- the scans in the reel it hands back are exactly those that then stand
  pub leaves : scans handed ≡ standing_after call standing
  -- every byte of a lent output is as document 01 says
  pub writes : outcome.output ≡ output call standing
  -- each value lies within m+n+1 of 65,536 × the exact blend, either way (request 5/14), with m, n, h and r of the
  -- piece of a value
  pub values : (x : ℕ) (v : ℤ) → call ≡ value x → reply_of outcome.answer ≡ number v →
      ValueDistance (value_piece standing x) (value_place standing x).r v
  -- for each trend z, twice the distance between 65,536 × the exact derivative over the piece and h × z is at most
  -- 3(m+n)+h (request 5/14), with those of the piece of a trend, which at a lone reading is the one on its left
  -- (request 3/14)
  pub trends : (x : ℕ) (z : ℤ) → call ≡ trend x → reply_of outcome.answer ≡ number z →
      TrendDistance (trend_piece standing x) (trend_place standing x).r z
  -- each total is the exact integral of the blends over its pieces
  pub totals : (i j : ℕ) (t : ℤ) → call ≡ total i j → reply_of outcome.answer ≡ number t →
      t ≡ integral_over standing i j
  -- the blend is that of the standing scans, and its Taylor coefficients at both ends of each piece are exactly
  -- theirs: of the scans that stand before the call, and of those that then stand
  pub ends : (k : ℕ) → suc k < length standing → Taylor (piece_of standing k)
  pub ends_then : (k : ℕ) → suc k < length (standing_after call standing) →
      Taylor (piece_of (standing_after call standing) k)

-- for every sequence of calls from the reel that `Reel::empty` hands over (`Post` is what it ensures), that is so at
-- every call, with the scans that the calls before it left standing
abbrev pub Sequences : Type 0
Sequences = (begin : Reel) (calls : List Call) → empty-reads.Post tt tt begin tt →
    (run : Run Called begin calls) → EveryCall Right standing_after run []
