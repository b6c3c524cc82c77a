-- Where nothing is found too large, each product keeps the limit.
use Rattle.std.proofs.Common.{◌≡◌, true, Result, Ok, Err, sym, ◌∙◌, refl, rules}
use Rattle.std.specs.Result.{is_ok}
use Rattle.std.proofs.Math.Option.{none}
use Rattle.scans.proofs.SizeRule.{kept_sized}
use Rattle.knot.specs.Machine.{too_large}
use Rattle.knot.specs.declared.reason.Spot.{Spot}
use Rattle.piece_vectors.proofs.admit.sized.Goals as goal

none_too_large : (r : Result Unit Spot) → is_ok r ≡ true → too_large r ≡ none
none_too_large (Ok t) e = refl
none_too_large (Err s) e = cc

pub returns-then-contains : goal.returns-then-contains
returns-then-contains c = λ yes. (
  record { at_least = search rules; at_most = search rules },
  kept_sized c.args.k c.args.h c.args.list.now (sym c.list_reason.ensures ∙ none_too_large c.list_reason.result (sym c.is_ok.ensures.value ∙ yes)),
)
