-- A total is 0 over no piece, and each further piece adds its own. A sum over pieces: it depends on those pieces only, c numbers within B add
-- up to one within c × B, and it is linear.
use mathlib.Core.List.{List}
use mathlib.Core.Path.{◌≡◌, refl, ◌∙◌, ap₂}
use Prim.Native.Nat.{ℕ, zero, suc, ◌+◌, ◌*◌, ◌-◌, ◌≤◌, ◌<◌}
use native.Mathlib.Omega.{arith}
use lib.IntN.{ℤ, pos, ◌+ℤ◌, ◌*ℤ◌, *ℤ-zero}
use Rattle.integer.specs.Within.{Within}
use Rattle.integer.proofs.Laws.{combinations_add}
use Rattle.integer.proofs.Within.{within_more, within-add, within-natural}
use Rattle.rounding.specs.Water.{total}
use Rattle.scans.specs.Scan.{Scan}
use Rattle.scans.specs.Pieces.{piece_of}
use Rattle.scans.specs.Queries.{sum_from, total_over}

-- document 01, "Water": Total(i, j) is 0 for i = j
pub total_none : (scans : List Scan) (i : ℕ) → total_over scans i i ≡ pos 0
unfolding total_over sum_from
total_none scans i = let none : i - i ≡ 0 = omega arith in rw none refl

-- and adds pieces i to j−1: with piece j it is the total to j + 1
pub total-next : (scans : List Scan) (i j : ℕ) → i ≤ j → total_over scans i (suc j) ≡ total_over scans i j +ℤ total (piece_of scans j)
unfolding total_over sum_from
total-next scans i j h =
    let more : suc j - i ≡ suc (j - i) = omega arith in
    let last : i + (j - i) ≡ j = omega arith in
    rw (more, last) refl

pub sum-agree : (f g : ℕ → ℤ) (i c : ℕ) → ((k : ℕ) → i ≤ k → k < i + c → f k ≡ g k) → sum_from f i c ≡ sum_from g i c
unfolding sum_from
sum-agree f g i zero same = refl
sum-agree f g i (suc c) same = rw (sum-agree f g i c (λ k h b. same k h (omega arith)), same (i + c) (omega arith) (omega arith)) refl

pub sum-within : (f : ℕ → ℤ) (B i c : ℕ) → ((k : ℕ) → i ≤ k → k < i + c → Within B (f k)) → Within (c * B) (sum_from f i c)
unfolding sum_from
sum-within f B i zero each = within_more (omega arith) (within-natural 0)
sum-within f B i (suc c) each =
    within_more (omega arith) (within-add _ _ (sum-within f B i c (λ k h b. each k h (omega arith))) (each (i + c) (omega arith) (omega arith)))

pub sum_from-combines : (α β : ℤ) (f g h : ℕ → ℤ) (i c : ℕ) → ((k : ℕ) → i ≤ k → k < i + c → h k ≡ α *ℤ f k +ℤ β *ℤ g k) →
    sum_from h i c ≡ α *ℤ sum_from f i c +ℤ β *ℤ sum_from g i c
unfolding sum_from
sum_from-combines α β f g h i zero each = rw (*ℤ-zero α, *ℤ-zero β) refl
sum_from-combines α β f g h i (suc c) each =
    ap₂ (λ x y. x +ℤ y) (sum_from-combines α β f g h i c (λ k l b. each k l (omega arith))) (each (i + c) (omega arith) (omega arith)) ∙
    combinations_add α β (sum_from f i c) (sum_from g i c) (f (i + c)) (g (i + c))
