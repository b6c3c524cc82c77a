-- Document 02, request 4/14: the sum of two lists of scans, each multiplied by a whole number.
use Rattle.std.specs.Prelude.{Bool, ◌&&◌, List, [], ◌∷◌, eqb, ℤ}
use Rattle.integer.specs.Tests.{pairwise}
use Rattle.hermite.specs.Polynomial.{◌⊕◌, ◌⊙◌}
use Rattle.scans.specs.Scan.{Scan, scan_of, grade}

-- the position and the grade of two scans agree
abbrev pub aligned : Scan → Scan → Bool
aligned s t = eqb s.position t.position && eqb (grade s) (grade t)

-- "two reels that have the same positions and grades", and so as many knots
abbrev pub all_aligned : List Scan → List Scan → Bool
all_aligned = pairwise aligned

-- the scan "with coefficients αA + βB", at the position that both have
abbrev pub combined_scan : ℤ → ℤ → Scan → Scan → Scan
combined_scan α β s t = scan_of s.position (α ⊙ s.coefficients ⊕ β ⊙ t.coefficients)

-- "the reel with coefficients αA + βB", scan by scan
abbrev pub combination : ℤ → ℤ → List Scan → List Scan → List Scan
combination α β [] B = []
combination α β (s ∷ A) [] = []
combination α β (s ∷ A) (t ∷ B) = combined_scan α β s t ∷ combination α β A B
