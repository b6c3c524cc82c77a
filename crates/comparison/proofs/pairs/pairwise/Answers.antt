-- Lists of unlike counts fail; of others the test is made of each pair.
use Rattle.std.proofs.Common.{◌≡◌, List, [], ◌∷◌, length, ◌&&◌, arith, rules, refl, sym, ◌∙◌, ap}
use Rattle.std.proofs.lemmas.Iterator.{YieldsList-from_slice, YieldsList-from_zip}
use Rattle.std.proofs.lemmas.Iterator.Search.{all_from_yields_List}
use Rattle.std.specs.List.{list_all, zip}
use Rattle.integer.specs.Tests.{pairwise}
use Rattle.integer.proofs.Tests.{pairs_unlike}
use Rattle.scans.specs.Scan.{Scan}
use Rattle.knot.specs.Machine.{scan, scans}
use Rattle.knot.specs.declared.held.Knot.{Knot}
use Rattle.knot.proofs.Lists.{length-scans}
use borrow.Author.Tests.{ne_eqb}
use Rattle.comparison.proofs.pairs.pairwise.Goals as goal
use Rattle.comparison.proofs.pairs.pairwise.Goals.{then-knots-others, else-knots-others}

all_pairs : (passes : Scan → Scan → _) (knots others : List Knot) → length knots ≡ length others →
    list_all (λ (p : Knot × Knot). passes (scan p.0) (scan p.1)) (zip knots others) ≡ pairwise passes (scans knots) (scans others)
all_pairs passes [] [] e = refl
all_pairs passes [] (b ∷ others) e = absurd (omega arith)
all_pairs passes (a ∷ knots) [] e = absurd (omega arith)
all_pairs passes (a ∷ knots) (b ∷ others) e = ap (λ t. passes (scan a) (scan b) && t) (all_pairs passes knots others (omega arith))

pub returns : goal.returns
returns g c passes is =
    let knots = c.args.knots.now in
    let others = c.args.others.now in
    elim c.if-knots-others.branch [
      | then-knots-others w ↦
          w.result-is ∙ all_from_yields_List (λ p. passes (scan p.0) (scan p.1)) w.all.new.self _ _ w.all.ensures.ran
          (YieldsList-from_zip (YieldsList-from_slice knots (cc)) (YieldsList-from_slice others (cc)))
          (λ x b q k. search (rules, is))
          ∙ all_pairs passes knots others w.if-knots-others.true
      | else-knots-others w ↦
          w.result-is ∙ ne_eqb _ _ w.if-knots-others.false
          ∙ sym (pairs_unlike passes (scans knots) (scans others) (λ e. w.if-knots-others.false (sym (length-scans knots) ∙ e ∙ length-scans others)))
    ]
