-- Request 6/14: the reasons of what the calls answer, over the functions' own contracts.
use Rattle.std.specs.Prelude.{Option}
use mathlib.Core.Path.{◌≡◌}
use Rattle.knot.specs.Machine.{spot_in}
use Rattle.knot.specs.declared.reason.Spot.{Spot}
use Rattle.calls.specs.Calls.{Call}
use Rattle.calls.specs.Reason.{reason_for}
use Rattle.calls.proofs.Reason.{reason_laws}
use Rattle.reel.specs.Machine.{scans}
use Rattle.reel.specs.declared.held.Reel.{Reel}
use Rattle.reel.proofs.Contracts.{combine_combines, append_reasons, correct_reasons, read_reasons, combine_reasons}
use Rattle.sequences.specs.Reasons.{Asked, of_append, of_correct, of_read, ReasonsOfAnswers}
use Rattle.sequences.proofs.Called.{called_does}

asked_is : {call : Call} {given : Reel} {reason : Option Spot} → Asked call given reason → spot_in reason ≡ reason_for call (scans given)
asked_is (of_append κs given x C reason contract) = append_reasons given reason κs x C contract
asked_is (of_correct κs given k C reason contract) = correct_reasons given reason κs k C contract
asked_is (of_read κs given bytes reason contract) = read_reasons given reason κs bytes contract

pub reasons_of_answers : ReasonsOfAnswers
reasons_of_answers = record {
  calls = λ call given handed outcome reason does asks.
      rw ((called_does does).replies, asked_is asks) (reason_laws.calls call (scans given));
  sums = λ α β given other sum reason adds asks.
      rw ((combine_combines α β given other sum adds).replies, combine_reasons given reason α β other asks)
      (reason_laws.sums α β (scans given) (scans other));
}
