-- What a refused call finds, and what one finds of which the size rule is all that is left to ask.
use Rattle.std.specs.Prelude.{Ok, Err}
use Rattle.std.proofs.Common.{false, List, [], ◌∷◌, ◌≡◌, sym, ◌∙◌, ap}
use Rattle.std.proofs.Math.Option.{none, some}
use lib.Dec.{eqb}
use Rattle.scans.specs.Scan.{Scan}
use Rattle.scans.specs.SizeRule.{Product, first_too_large}
use Rattle.scans.specs.RefusalTable.{Cause, first, bad_size}
use Rattle.scans.specs.Reason.{reason}
use Rattle.scans.proofs.Reason.{other-reason, size-reason}
use Rattle.knot.specs.Machine.{scan, number, spot}
use Rattle.knot.specs.declared.held.Knot.{Knot}
use Rattle.knot.specs.declared.reason.Fault.TheVariants as Faults
use Rattle.knot.specs.declared.reason.Spot.{Spot}
use Rattle.knot.specs.declared.table.Refusal.{Refusal}
use Rattle.first_cause.specs.Machine.{Finds}

module _ (causes : List Cause) (tested : List Product) (s : Scan) where
  -- a refusal with another number than 6 names no product
  pub refuses : (cause : Refusal) → first causes ≡ some (number cause) → eqb (number cause) 6 ≡ false →
      Finds (Err (Faults.Cause cause)) causes tested s
  refuses cause e other = record {
    fault = sym e;
    reason = sym (ap (λ n. reason n tested) e ∙ other-reason (number cause) tested other);
    knot = tt;
  }

  -- a 6 names the first product that is too large
  pub breaks : (large : Spot) → first causes ≡ first (bad_size (first_too_large tested) ∷ []) → some (spot large) ≡ first_too_large tested →
      Finds (Err (Faults.TooLarge large)) causes tested s
  breaks large e found = record {
    fault = ap (λ f. first (bad_size f ∷ [])) found ∙ sym e;
    reason = found ∙ sym (ap (λ n. reason n tested) e ∙ size-reason tested);
    knot = tt;
  }

  -- where none is, no cause holds
  pub passes : (k : Knot) → scan k ≡ s → first causes ≡ first (bad_size (first_too_large tested) ∷ []) → none ≡ first_too_large tested →
      Finds (Ok k) causes tested s
  passes k is e found = record {
    fault = ap (λ f. first (bad_size f ∷ [])) found ∙ sym e;
    reason = found ∙ sym (ap (λ n. reason n tested) e ∙ size-reason tested);
    knot = is;
  }
