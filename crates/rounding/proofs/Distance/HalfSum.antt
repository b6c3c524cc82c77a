-- The half-sum beside its unrounded self: m+n+1 scalings.
use mathlib.Core.Path.{◌≡◌, refl, sym, ◌∙◌, ap, ap₂}
use Prim.Native.Nat.{ℕ, zero, suc, ◌+◌, ◌*◌, ◌-◌, ◌^◌, ◌≤◌, ◌<◌}
use native.Mathlib.Nat.{pow-zero, pow-succ', zero-add, add-zero}
use native.Mathlib.Omega.{arith}
use lib.IntN.{ℤ, pos, one, ◌+ℤ◌, ◌*ℤ◌, +ℤ_comm, *ℤ_comm, *ℤ-one}
use Rattle.integer.specs.Sum.{sum}
use Rattle.integer.proofs.Laws.{one-*ℤ, *ℤ_assoc, *ℤ-left_comm}
use Rattle.integer.proofs.Sum.{sum_cong, sum-*, sum_first}
use Rattle.hermite.specs.HalfSum.{value_unit, g, unrounded_descent, unrounded}
use Rattle.hermite.proofs.At.{power-first, power-next}
use Rattle.rounding.specs.Scaling.{scaled, scaled_times}
use Rattle.rounding.specs.HalfSum.{descended, half_sum}
use Rattle.rounding.proofs.Scaling.{nearest}
use Rattle.rounding.proofs.Distance.Near.{Near, near-exact, near-start, near_as, near-scaled, near-sum}

-- the sums of step 2 from i on
from : (ℕ → ℤ) → ℕ → ℕ → ℤ
from G i l = G (i + l)

-- step 2 without rounding, by the turns of step 2: the last term alone, and one more before it
descent_last : (G : ℕ → ℤ) (a D i : ℕ) → unrounded_descent (from G i) a D 0 ≡ pos value_unit *ℤ G i
unfolding from unrounded_descent sum one
descent_last G a D i = rw (add-zero, pow-zero a, pow-zero D) (*ℤ-one (pos value_unit *ℤ G i))

descent_next : (G : ℕ → ℤ) (a D k i : ℕ) → unrounded_descent (from G i) a D (suc k) ≡ pos a *ℤ unrounded_descent (from G (suc i)) a D k +ℤ pos
    (D ^ suc k) *ℤ (pos value_unit *ℤ G i)
unfolding from unrounded_descent
descent_next G a D k i =
    sum_first k _ ∙ ap₂ (λ x y. x +ℤ y) first (sum_cong k _ _ (λ l h. later l) ∙
    sum-* k (pos a) (λ l. pos value_unit *ℤ G (suc i + l) *ℤ pos (a ^ l * D ^ (k - l)))) ∙
    +ℤ_comm (pos (D ^ suc k) *ℤ (pos value_unit *ℤ G i)) (pos a *ℤ unrounded_descent (from G (suc i)) a D k)
  where
    first : pos value_unit *ℤ G (i + 0) *ℤ pos (a ^ 0 * D ^ (suc k - 0)) ≡ pos (D ^ suc k) *ℤ (pos value_unit *ℤ G i)
    first = rw (add-zero, power-first a D k) (*ℤ_comm (pos value_unit *ℤ G i) (pos (D ^ suc k)))

    later : (l : ℕ) → pos value_unit *ℤ G (i + suc l) *ℤ pos (a ^ suc l * D ^ (suc k - suc l)) ≡ pos a *ℤ
        (pos value_unit *ℤ G (suc i + l) *ℤ pos (a ^ l * D ^ (k - l)))
    later l =
        let e : i + suc l ≡ suc i + l = omega arith in
        rw (e, power-next a D k l) (*ℤ-left_comm (pos value_unit *ℤ G (suc i + l)) (pos a) (pos (a ^ l * D ^ (k - l))))

module _ (D : ℕ) (positive : 0 < D) where
  pub near_times : {N j : ℕ} {Z u : ℤ} (k a : ℕ) → a ≤ D → Near D N j Z u → Near D (N + k) (j + k) (pos (a ^ k) *ℤ Z) (scaled_times k u a D)
  unfolding scaled_times scaled one
  near_times {Z = Z} zero a h near = near_as (omega arith) (omega arith) (rw pow-zero (sym (one-*ℤ Z))) near
  near_times {Z = Z} {u = u} (suc k) a h near =
      near_as (omega arith) (omega arith) (rw pow-succ' (sym (*ℤ_assoc (pos a) (pos (a ^ k)) Z)))
      (near-scaled a h (near_times k a h near) (nearest (scaled_times k u a D *ℤ pos a) D positive))

  near-descended : (G : ℕ → ℤ) (a k i : ℕ) → a ≤ D → Near D k k (unrounded_descent (from G i) a D k) (descended G a D k i)
  unfolding descended scaled
  near-descended G a zero i h = near_as refl (omega arith) (sym (descent_last G a D i)) (near-start D (pos value_unit *ℤ G i))
  near-descended G a (suc k) i h =
      near_as refl (omega arith) (sym (descent_next G a D k i))
      (near-sum (near-scaled a h (near-descended G a k (suc i) h) (nearest (descended G a D k (suc i) *ℤ pos a) D positive))
      (near-exact D (suc k) (pos value_unit *ℤ G i)))

  pub near-half_sum : (m n a : ℕ) (w : ℕ → ℤ) → a ≤ D → Near D (m + (n + 1)) (m + (n + 1)) (unrounded m n a D w) (half_sum m n a D w)
  unfolding half_sum unrounded unrounded_descent from
  near-half_sum m n a w h = near_as refl (omega arith)
      (ap (λ x. pos ((D - a) ^ (n + 1)) *ℤ x) (sum_cong m _ _ (λ l b. ap (λ i. pos value_unit *ℤ g n w i *ℤ pos (a ^ l * D ^ (m - l))) (zero-add l))))
      (near_times (n + 1) (D - a) (omega arith) (near-descended (g n w) a m 0 h))
