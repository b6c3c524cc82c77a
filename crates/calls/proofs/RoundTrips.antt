-- Demand 2, of the model: what a write writes, a read accepts, and then the same scans stand; and what a write writes where there is room.
use borrow.Author.Tests.{le-ltb}
use mathlib.Core.List.{List, ◌++◌}
use mathlib.Core.Option.{none}
use mathlib.Core.Path.{◌≡◌, refl, ◌∙◌, ap₂}
use Prim.Native.Nat.{ℕ, ◌≤◌}
use lib.IntN.{pos}
use lib.ListN.{length, take, drop}
use lib.Seq.{take-append_seam}
use Rattle.scans.specs.Scan.{Scan}
use Rattle.scans.specs.Standing.{Standing}
use Rattle.scans.specs.RefusalTable.{first}
use Rattle.block.specs.Block.{block}
use Rattle.block.proofs.RoundTrips.{written-accepted, written-list}
use Rattle.calls.specs.Calls.{accepted, number, read, write, causes, reply_to, standing_after, output}
use Rattle.calls.proofs.Effects.{acceptance_replies, acceptance_leaves, acceptance_writes, number-quiet}

-- where a write answers a number, that many bytes in front of the output are the block
pub front_is : (list : List Scan) (out : List ℕ) (n : ℕ) → reply_to (write out) list ≡ number (pos n) → take n (output (write out) list) ≡ block list
front_is list out n e =
    let a = number-quiet (write out) list e in
    let size : n ≡ length (block list) = cc a.1 in
    ap₂ take size (acceptance_writes (write out) list a.0) ∙ take-append_seam (block list) (drop (length (block list)) out)

-- every list that stands, every output: the bytes that a write counts are a block that every read accepts, and then that list stands
pub written_read : (list : List Scan) → Standing list → (out : List ℕ) (n : ℕ) → reply_to (write out) list ≡ number (pos n) → (standing : List Scan) →
    (reply_to (read (take n (output (write out) list))) standing ≡ accepted) × (standing_after (read (take n (output (write out) list))) standing ≡ list)
written_read list st out n e standing =
    let quiet = written-accepted list st in
    rw (front_is list out n e)
    (acceptance_replies (read (block list)) standing quiet, acceptance_leaves (read (block list)) standing quiet ∙ written-list list st)

-- every list, every output with room for its block: the answer is the number of the block's bytes, which stand first in the output
module _ (list : List Scan) (out : List ℕ) (room : length (block list) ≤ length out) where
  room-quiet : first (causes (write out) list) ≡ none
  room-quiet = rw (le-ltb (length out) (length (block list)) room) refl

  pub room-answers : reply_to (write out) list ≡ number (pos (length (block list)))
  room-answers = acceptance_replies (write out) list room-quiet

  pub room-writes : output (write out) list ≡ block list ++ drop (length (block list)) out
  room-writes = acceptance_writes (write out) list room-quiet
