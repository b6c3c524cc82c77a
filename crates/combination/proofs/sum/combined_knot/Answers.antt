-- Of the eight places the first grade + 1 are the list.
use mathlib.Core.List.{List, map}
use mathlib.Core.Path.{◌≡◌, ◌∙◌, ap, ap₂}
use Prim.Native.Nat.{◌+◌}
use lib.IntN.{ℤ}
use lib.ListN.{take}
use mir.Facts.{to_z-of_z}
use Rattle.std.proofs.lemmas.List.{take-map}
use Rattle.hermite.specs.Polynomial.{◌⊕◌, ◌⊙◌}
use Rattle.scans.specs.Scan.{scan_of}
use Rattle.scans.specs.Combination.{combined_scan}
use Rattle.knot.specs.Machine.{scan}
use Rattle.knot.specs.declared.held.Knot.{Knot}
use Rattle.combination.specs.Machine.{limited, limited_scan}
use Rattle.combination.proofs.Limited.{take-⊙, take-⊕}
use Rattle.combination.proofs.sum.combined_knot.Goals as goal

sum_is : (α β : ℤ) (a b : Knot) (c : List ℤ) → a.grade ≡ b.grade → c ≡ map limited (α ⊙ a.coefficients ⊕ β ⊙ b.coefficients) →
    scan_of a.position (take (a.grade + 1) c) ≡ limited_scan (combined_scan α β (scan a) (scan b))
sum_is α β a b c same is =
    ap (scan_of a.position)
    (ap (take (a.grade + 1)) is ∙ take-map limited (a.grade + 1) (α ⊙ A ⊕ β ⊙ B) ∙
    ap (map limited) (take-⊕ (a.grade + 1) (α ⊙ A) (β ⊙ B) ∙ ap₂ (λ x y. x ⊕ y) (take-⊙ α (a.grade + 1) A)
    (take-⊙ β (a.grade + 1) B ∙ ap (λ g. β ⊙ take (g + 1) B) same)))
  where
    A : List ℤ
    A = a.coefficients

    B : List ℤ
    B = b.coefficients

pub returns : goal.returns
returns c =
    sum_is c.args.alpha c.args.beta c.args.a.now c.args.b.now c.combined_list.result c.requires.alike
    (rw (to_z-of_z c.ranges.alpha, to_z-of_z c.ranges.beta) at c.combined_list.ensures)
