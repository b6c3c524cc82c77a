-- Request 4/14: the blends, totals and values of a sum, over the functions' own contracts.
use mathlib.Core.Option.{none}
use mathlib.Core.Path.{◌≡◌, sym, ◌∙◌}
use lib.IntN.{ℤ}
use Rattle.scans.specs.RefusalTable.{first}
use Rattle.scans.specs.Order.{combination_causes}
use Rattle.scans.specs.Combination.{combination}
use Rattle.calls.specs.Calls.{Call, reply_to}
use Rattle.calls.specs.Combination.{SumReplies}
use Rattle.calls.proofs.Combination.{sum-accepted, sum-leaves, sum-combined, sum-values, sum-total-replies, sum-value-replies}
use Rattle.reel.specs.Machine.{scans}
use Rattle.reel.proofs.Scans.{stands}
use Rattle.reel.specs.declared.held.Reel.{Reel}
use Rattle.reel.proofs.Contracts.{combine_combines}
use Rattle.sequences.specs.Combination.{AskedOfAll, ValuesOfSums, SumsOfReels}
use Rattle.sequences.proofs.Called.{called_does}

-- each reply is the model's
asked_of_all : {query : Call} {Law : ℤ → ℤ → ℤ → Type 0} {given other sum : Reel} →
    SumReplies Law (reply_to query (scans given)) (reply_to query (scans other)) (reply_to query (scans sum)) → AskedOfAll query Law given other sum
asked_of_all law mine its both given' other' sum' asks asks-other asks-sum =
    rw ((called_does asks).replies, (called_does asks-other).replies, (called_does asks-sum).replies) law

pub sums_of_reels : SumsOfReels
sums_of_reels α β given other sum adds ok =
    let c = combine_combines α β given other sum adds in
    let quiet : first (combination_causes α β (scans given) (scans other)) ≡ none = sum-accepted α β (scans given) (scans other) (sym c.replies ∙ ok) in
    let are : scans sum.reel ≡ combination α β (scans given) (scans other) = c.leaves ∙ sum-leaves α β (scans given) (scans other) quiet in
    record {
      blends = rw are (sum-combined α β (scans given) (scans other) (stands given) quiet).blends;
      totals = λ i j. asked_of_all (rw are (sum-total-replies α β (scans given) (scans other) (stands given) quiet i j));
      values = λ x. asked_of_all (rw are (sum-value-replies α β (scans given) (scans other) (stands given) quiet x));
    }

pub values_of_sums : ValuesOfSums
values_of_sums α β given other sum adds ok x mine its both given' other' sum' asks asks-other asks-sum =
    let c = combine_combines α β given other sum adds in
    let quiet : first (combination_causes α β (scans given) (scans other)) ≡ none = sum-accepted α β (scans given) (scans other) (sym c.replies ∙ ok) in
    let are : scans sum.reel ≡ combination α β (scans given) (scans other) = c.leaves ∙ sum-leaves α β (scans given) (scans other) quiet in
    rw ((called_does asks).replies, (called_does asks-other).replies, (called_does asks-sum).replies, are)
    (sum-values α β (scans given) (scans other) (stands given) quiet x)
