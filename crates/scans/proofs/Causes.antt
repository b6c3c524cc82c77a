-- The first cause that holds, of two lists one after the other; and what holds where none does.
use borrow.Author.Tests.{ltb-false, leb-false, eqb-false, le-ltb, ne_eqb}
use mathlib.Core.Bool.{Bool, true, false, ◌||◌, true≢false}
use mathlib.Core.List.{List, ◌++◌}
use mathlib.Core.Option.{Option, none, some, some-ne-none, some-injective}
use mathlib.Core.Path.{◌≡◌, refl, sym}
use Prim.Native.Nat.{ℕ, ◌+◌, ◌≤◌, ◌<◌}
use native.Mathlib.Omega.{arith}
use lib.Dec.{eqb, leb, ltb}
use lib.IntN.{ℤ}
use lib.ListN.{length}
use Rattle.integer.proofs.Tests.{NonePasses, none_both, none_left, none_right, none_passes, no_first, first_of_found, first_of_later}
use Rattle.rounding.specs.Limits.{position_max, grade_max, gap_max}
use Rattle.rounding.specs.Size.{Listed}
use Rattle.scans.specs.Scan.{Scan, gap}
use Rattle.scans.specs.RefusalTable.{Cause, first, bad_list, bad_position, wide_gap, position_causes}

-- ---- the first cause

pub first_found : {n : ℕ} (a b : List Cause) → first a ≡ some n → first (a ++ b) ≡ some n
first_found = first_of_found (λ c. c.holds) (λ c. c.number)

pub first-later : (a b : List Cause) → first a ≡ none → first (a ++ b) ≡ first b
first-later = first_of_later (λ c. c.holds) (λ c. c.number)

-- no cause holds
abbrev pub Quiet : List Cause → Type 0
Quiet = NonePasses (λ c. c.holds)

pub quiet : (cs : List Cause) → first cs ≡ none → Quiet cs
quiet = none_passes (λ c. c.holds) (λ c. c.number)

pub silent : (cs : List Cause) → Quiet cs → first cs ≡ none
silent = no_first (λ c. c.holds) (λ c. c.number)

pub quiet-both : (a b : List Cause) → Quiet a → Quiet b → Quiet (a ++ b)
quiet-both = none_both (λ c. c.holds)

pub quiet-left : (a b : List Cause) → Quiet (a ++ b) → Quiet a
quiet-left = none_left (λ c. c.holds)

pub quiet-right : (a b : List Cause) → Quiet (a ++ b) → Quiet b
quiet-right = none_right (λ c. c.holds)

-- ---- 4 stands before 5

-- a position above 65,535 or not above the last answers 4, whatever the gap
pub misplaced : (last : Option Scan) (x : ℕ) → (bad_position last x).holds ≡ true → first (position_causes last x) ≡ some 4
misplaced last x e = rw e refl

-- ---- what passes

pub neither : (a b : Bool) → (a || b) ≡ false → (a ≡ false) × (b ≡ false)
neither true b e = absurd (true≢false e)
neither false b e = (refl, e)

pub listed : (C : List ℤ) → (bad_list (length C)).holds ≡ false → Listed C
listed C e =
    let p = neither (eqb (length C) 0) (ltb (grade_max + 1) (length C)) e in
    record { at_least = omega (arith, eqb-false (length C) 0 p.0); at_most = ltb-false (grade_max + 1) (length C) p.1 }

pub list_passes : (C : List ℤ) → Listed C → (bad_list (length C)).holds ≡ false
list_passes C l = rw (ne_eqb (length C) 0 (omega (arith, l.at_least)), le-ltb (grade_max + 1) (length C) l.at_most) refl

-- a position that may follow the last scan
pub record Placed (last : Option Scan) (x : ℕ) : Type 0 where
  pub position : x ≤ position_max
  pub above : (held : Scan) → last ≡ some held → held.position < x
  pub near : (held : Scan) → last ≡ some held → gap held x ≤ gap_max

pub placed : (last : Option Scan) (x : ℕ) → (bad_position last x).holds ≡ false → (wide_gap last x).holds ≡ false → Placed last x
placed none x p w = record {
  position = ltb-false position_max x (neither (ltb position_max x) false p).0;
  above = λ held e. absurd (some-ne-none _ (sym e));
  near = λ held e. absurd (some-ne-none _ (sym e));
}
placed (some l) x p w =
    let q = neither (ltb position_max x) (leb x l.position) p in
    record {
      position = ltb-false position_max x q.0;
      above = λ held e. rw (some-injective l held e) at (leb-false x l.position q.1);
      near = λ held e. rw (some-injective l held e) at (ltb-false gap_max (gap l x) w);
    }
