-- What a call does, by its function's own contract.
use mathlib.Core.List.{List}
use mathlib.Core.Path.{◌≡◌}
use Prim.Native.Nat.{ℕ}
use Rattle.block.specs.Block.{plain_edition, block}
use Rattle.block.specs.Reading.{edition_of}
use Rattle.calls.specs.Calls.{Call, accepted, read}
use Rattle.reel.specs.Machine.{scans, reply_of, Does}
use Rattle.reel.specs.declared.held.Reel.{Reel}
use Rattle.reel.proofs.Contracts.{clear_does, append_does, correct_does, read_does, read_again, write_does, value_does, trend_does, total_does}
use Rattle.sequences.specs.Called.{Outcome, Called, by_clear, by_append, by_correct, by_read, by_write, by_value, by_trend, by_total}

-- a call does what its contract says
pub called_does : {call : Call} {given handed : Reel} {outcome : Outcome} → Called call given outcome handed →
    Does call given outcome.answer handed outcome.output
called_does (by_clear given handed contract) = clear_does given handed contract
called_does (by_append κs given x C handed contract) = append_does given handed κs x C contract
called_does (by_correct κs given k C handed contract) = correct_does given handed κs k C contract
called_does (by_read κs given bytes handed contract) = read_does given handed κs bytes contract
called_does (by_write κs given out after handed contract) = write_does given handed κs out after contract
called_does (by_value given x handed contract) = value_does given handed x contract
called_does (by_trend given x handed contract) = trend_does given handed x contract
called_does (by_total given i j handed contract) = total_does given handed i j contract

-- an accepted block of edition 1 is the block of the list that then stands
pub called_again : {given handed : Reel} {outcome : Outcome} {bytes : List ℕ} → Called (read bytes) given outcome handed →
    reply_of outcome.answer ≡ accepted → edition_of bytes ≡ plain_edition → block (scans handed) ≡ bytes
called_again (by_read κs given bytes handed contract) = read_again given handed κs bytes contract
