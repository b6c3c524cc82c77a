-- Laws of lists of knots, and of their scans.
use mathlib.Core.List.{List, [], ◌∷◌, ◌++◌, map}
use mathlib.Core.Path.{◌≡◌, refl, ap}
use Prim.Native.Nat.{ℕ, zero, suc, ◌+◌, ◌<◌}
use native.Mathlib.Numerals.{add-one}
use native.Mathlib.Omega.{arith}
use lib.ListN.{length, take, get_or, set, length-map}
use lib.Seq.{length-take-le, take-suc-set}
use Rattle.scans.specs.Scan.{Scan, grade, at}
use Rattle.knot.specs.Machine.{scan, scans}
use Rattle.knot.specs.declared.held.Knot.{Knot}

pub map-append-one : {A B : Type 0} (f : A → B) (l : List A) (k : A) → map f (l ++ k ∷ []) ≡ map f l ++ f k ∷ []
map-append-one f [] k = refl
map-append-one f (x ∷ l) k = ap (λ m. f x ∷ m) (map-append-one f l k)

pub map_set : (f : Knot → Scan) (l : List Knot) (i : ℕ) (k : Knot) → map f (set l i k) ≡ set (map f l) i (f k)
map_set f [] i k = refl
map_set f (x ∷ l) zero k = refl
map_set f (x ∷ l) (suc i) k = ap (λ m. f x ∷ m) (map_set f l i k)

map_at : (f : Knot → Scan) (l : List Knot) (i : ℕ) (d : Knot) → i < length l → at (map f l) i ≡ f (get_or l i d)
map_at f [] i d h = absurd (omega arith)
map_at f (x ∷ l) zero d h = refl
map_at f (x ∷ l) (suc i) d h = map_at f l i d (omega arith)

-- the list of a knot has grade + 1 coefficients
pub list_length : (k : Knot) → length (take (k.grade + 1) k.coefficients) ≡ k.grade + 1
list_length k = length-take-le (k.grade + 1) k.coefficients (omega (arith, k.room, k.graded))

-- so the grade of its scan is its own
pub scan-grade : (k : Knot) → grade (scan k) ≡ k.grade
scan-grade k = omega (arith, list_length k)

-- ---- the scans of knots

pub length-scans : (knots : List Knot) → length (scans knots) ≡ length knots
length-scans knots = length-map knots scan

pub at_scans : (knots : List Knot) (k : ℕ) (d : Knot) → k < length knots → at (scans knots) k ≡ scan (get_or knots k d)
at_scans knots k d b = map_at scan knots k d b

-- ---- an array with a knot stored in the place after the first n

pub scans_stored : (knots : List Knot) (n : ℕ) (k : Knot) → n < length knots →
    scans (take (n + 1) (set knots n k)) ≡ scans (take n knots) ++ scan k ∷ []
scans_stored knots n k h = rw (add-one n, take-suc-set knots n k h) (map-append-one scan (take n knots) k)
