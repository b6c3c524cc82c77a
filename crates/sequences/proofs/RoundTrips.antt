-- Demand 2: both round trips, over the functions' own contracts.
use mathlib.Core.Path.{sym, ◌∙◌, ap}
use lib.ListN.{take}
use Rattle.calls.specs.Calls.{read, reply_to, standing_after}
use Rattle.calls.proofs.RoundTrips.{written_read, room-answers, room-writes}
use Rattle.reel.specs.Machine.{scans}
use Rattle.reel.proofs.Scans.{stands}
use Rattle.sequences.specs.RoundTrips.{WriteRead, ReadWrite}
use Rattle.sequences.proofs.Called.{called_does, called_again}

pub write_read : WriteRead
write_read given handed other back wrote outcome out n writes answer reads =
    let w = called_does writes in
    let r = called_does reads in
    let model = written_read (scans given) (stands given) out n (sym w.replies ∙ answer) (scans other) in
    let bytes = ap (λ bs. read (take n bs)) w.writes in
    record {
      accepts = r.replies ∙ ap (λ call. reply_to call (scans other)) bytes ∙ model.0;
      leaves = r.leaves ∙ ap (λ call. standing_after call (scans other)) bytes ∙ model.1;
    }

pub read-write : ReadWrite
read-write given handed back taken outcome bytes out reads ok plain writes =
    let again = called_again reads ok plain in
    let w = called_does writes in
    record {
      counts = λ room. w.replies ∙ rw (← again) (room-answers (scans handed) out (rw again room));
      puts = λ room. w.writes ∙ rw (← again) (room-writes (scans handed) out (rw again room));
    }
