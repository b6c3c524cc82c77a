-- Laws of lists of scans: the scan at a place, past the end, and of a list that was lengthened.
use mathlib.Core.List.{List, [], ◌∷◌, ◌++◌}
use mathlib.Core.Option.{none, some}
use mathlib.Core.Path.{◌≡◌, refl}
use Prim.Native.Nat.{ℕ, zero, suc, ◌≤◌, ◌<◌}
use native.Mathlib.Omega.{arith}
use lib.ListN.{length, get_elem?}
use Rattle.scans.specs.Scan.{Scan, at, before}

pub there : (l : List Scan) (j : ℕ) → j < length l → get_elem? l j ≡ some (at l j)
there [] j h = absurd (omega arith)
there (x ∷ l) zero h = refl
there (x ∷ l) (suc j) h = there l j (omega arith)

pub past : (l : List Scan) (j : ℕ) → length l ≤ j → get_elem? l j ≡ none
past [] j h = refl
past (x ∷ l) zero h = absurd (omega arith)
past (x ∷ l) (suc j) h = past l j (omega arith)

pub last_at : (l : List Scan) (j : ℕ) → suc j ≡ length l → before l (length l) ≡ some (at l j)
last_at l j e = rw (← e) (there l j (omega arith))

pub got_old : (l t : List Scan) (j : ℕ) → j < length l → get_elem? (l ++ t) j ≡ get_elem? l j
got_old [] t j h = absurd (omega arith)
got_old (x ∷ l) t zero h = refl
got_old (x ∷ l) t (suc j) h = got_old l t j (omega arith)
