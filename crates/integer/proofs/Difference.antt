-- Tool: linear facts about whole numbers, by `omega`, which reads naturals only. Each number is written as a difference of naturals,
-- and the set `differences` turns sums, products, negations, sizes, equations and orders of differences into statements on naturals.
use mathlib.Core.Path.{◌≡◌, refl, sym, ◌∙◌, ap, subst}
use mathlib.Core.Logic.{◌↔◌}
use native.Mathlib.Decide.{dec_le}
use mathlib.Core.List.{[], ◌∷◌}
use Prim.Native.Nat.{ℕ, suc, ◌+◌, ◌*◌, ◌-◌, ◌≤◌, ◌<◌}
use native.Mathlib.Omega.{arith}
use lib.Dec.{ltb→lt, lt→ltb}
use lib.IntN.{ℤ, pos, negsuc, neg_ℤ, ◌+ℤ◌, ◌-ℤ◌, ◌*ℤ◌, nat_abs, pos-ne-negsuc}
use lib.Signed.{◌<ℤ◌, lt_z_yes}
use Rattle.integer.specs.Within.{up, dn}
use Rattle.integer.proofs.Ring.{lets, solve, terms}

infix 8 ◌⊖◌
pub ◌⊖◌ : ℕ → ℕ → ℤ
a ⊖ b = pos a -ℤ pos b

-- ---- a difference is a number of either sign

cancel : (y z : ℤ) → (y +ℤ z) -ℤ y ≡ z
cancel y z = lets (y ∷ z ∷ []) (λ ρ v. simp (v 0, v 1, terms) (solve ρ _ _ tt))

overshoot : (x z : ℤ) → x -ℤ (x +ℤ z) ≡ neg_ℤ z
overshoot x z = lets (x ∷ z ∷ []) (λ ρ v. simp (v 0, v 1, terms) (solve ρ _ _ tt))

⊖_cases : (P : ℤ → Type 0) (a b : ℕ) → ((n : ℕ) → a ≡ b + n → P (pos n)) → ((n : ℕ) → b ≡ a + suc n → P (negsuc n)) → P (a ⊖ b)
unfolding ◌⊖◌
⊖_cases P a b above below = go (dec_le b a)
  where
    go : Dec (b ≤ a) → P (a ⊖ b)
    go (yes h) =
        let e : a ≡ b + (a - b) = omega arith in
        subst P (sym (cancel (pos b) (pos (a - b))) ∙ ap (λ n. pos n -ℤ pos b) (sym e)) (above (a - b) e)
    go (no h) =
        let e : b ≡ a + suc (b - suc a) = omega arith in
        subst P (sym (overshoot (pos a) (pos (suc (b - suc a)))) ∙ ap (λ n. pos a -ℤ pos n) (sym e)) (below (b - suc a) e)

-- ---- every number is a difference

pub as_⊖ : (z : ℤ) → z ≡ up z ⊖ dn z
as_⊖ (pos n) = ⊖_cases (λ z. pos n ≡ z) n 0 (λ k e. ap pos (omega arith)) (λ k e. absurd (omega arith))
as_⊖ (negsuc n) = ⊖_cases (λ z. negsuc n ≡ z) 0 (suc n) (λ k e. absurd (omega arith)) (λ k e. ap negsuc (omega arith))

pub pos-⊖ : (n : ℕ) → pos n ≡ n ⊖ 0
pos-⊖ n = as_⊖ (pos n)

pub minus_⊖ : (a b : ℕ) → pos a -ℤ pos b ≡ a ⊖ b
unfolding ◌⊖◌
minus_⊖ a b = refl

pub negsuc_⊖ : (n : ℕ) → negsuc n ≡ 0 ⊖ suc n
negsuc_⊖ n = as_⊖ (negsuc n)

-- ---- operations on differences

sums : (x y z w : ℤ) → (x -ℤ y) +ℤ (z -ℤ w) ≡ (x +ℤ z) -ℤ (y +ℤ w)
sums x y z w = lets (x ∷ y ∷ z ∷ w ∷ []) (λ ρ v. simp (v 0, v 1, v 2, v 3, terms) (solve ρ _ _ tt))

pub ⊖-+ : (a b c d : ℕ) → a ⊖ b +ℤ c ⊖ d ≡ (a + c) ⊖ (b + d)
unfolding ◌⊖◌
⊖-+ a b c d = sums (pos a) (pos b) (pos c) (pos d)

products : (x y z w : ℤ) → (x -ℤ y) *ℤ (z -ℤ w) ≡ (x *ℤ z +ℤ y *ℤ w) -ℤ (x *ℤ w +ℤ y *ℤ z)
products x y z w = lets (x ∷ y ∷ z ∷ w ∷ []) (λ ρ v. simp (v 0, v 1, v 2, v 3, terms) (solve ρ _ _ tt))

pub ⊖-* : (a b c d : ℕ) → a ⊖ b *ℤ c ⊖ d ≡ (a * c + b * d) ⊖ (a * d + b * c)
unfolding ◌⊖◌
⊖-* a b c d = products (pos a) (pos b) (pos c) (pos d)

negation : (x y : ℤ) → neg_ℤ (x -ℤ y) ≡ y -ℤ x
negation x y = lets (x ∷ y ∷ []) (λ ρ v. simp (v 0, v 1, terms) (solve ρ _ _ tt))

pub ⊖-neg : (a b : ℕ) → neg_ℤ (a ⊖ b) ≡ b ⊖ a
unfolding ◌⊖◌
⊖-neg a b = negation (pos a) (pos b)

-- its size: one of the two is 0
pub ⊖-size : (a b : ℕ) → nat_abs (a ⊖ b) ≡ (a - b) + (b - a)
⊖-size a b = ⊖_cases (λ z. nat_abs z ≡ (a - b) + (b - a)) a b (λ n e. omega arith) (λ n e. omega arith)

-- ---- equations and orders of differences

-- two differences, each of either sign
pairs : (P : ℤ → ℤ → Type 0) (a b c d : ℕ) →
    ((n k : ℕ) → a ≡ b + n → c ≡ d + k → P (pos n) (pos k)) → ((n k : ℕ) → a ≡ b + n → d ≡ c + suc k → P (pos n) (negsuc k)) →
    ((n k : ℕ) → b ≡ a + suc n → c ≡ d + k → P (negsuc n) (pos k)) → ((n k : ℕ) → b ≡ a + suc n → d ≡ c + suc k → P (negsuc n) (negsuc k)) →
    P (a ⊖ b) (c ⊖ d)
pairs P a b c d pp pn np nn = ⊖_cases (λ x. P x (c ⊖ d)) a b
    (λ n e. ⊖_cases (λ y. P (pos n) y) c d (λ k f. pp n k e f) (λ k f. pn n k e f))
    (λ n e. ⊖_cases (λ y. P (negsuc n) y) c d (λ k f. np n k e f) (λ k f. nn n k e f))

pub ⊖-≡ : (a b c d : ℕ) → (a ⊖ b ≡ c ⊖ d) ↔ (a + d ≡ c + b)
⊖-≡ a b c d = pairs (λ x y. (x ≡ y) ↔ (a + d ≡ c + b)) a b c d
    (λ n k e f. (λ g. let h : n ≡ k = cc in omega arith, λ h. ap pos (omega arith)))
    (λ n k e f. (λ g. absurd (pos-ne-negsuc n k g), λ h. absurd (omega arith)))
    (λ n k e f. (λ g. absurd (pos-ne-negsuc k n (sym g)), λ h. absurd (omega arith)))
    (λ n k e f. (λ g. let h : n ≡ k = cc in omega arith, λ h. ap negsuc (omega arith)))

pub ⊖-< : (a b c d : ℕ) → ((a ⊖ b) <ℤ (c ⊖ d)) ↔ (a + d < c + b)
⊖-< a b c d = pairs (λ x y. (x <ℤ y) ↔ (a + d < c + b)) a b c d
    (λ n k e f. (λ h. omega (arith, ltb→lt n k h.lt), λ h. lt_z_yes (lt→ltb n k (omega arith))))
    (λ n k e f. (λ h. absurd h.lt, λ h. absurd (omega arith)))
    (λ n k e f. (λ h. omega arith, λ h. lt_z_yes tt))
    (λ n k e f. (λ h. omega (arith, ltb→lt k n h.lt), λ h. lt_z_yes (lt→ltb k n (omega arith))))

pub ruleset differences = (⊖-+, ⊖-*, ⊖-neg, ⊖-size, pos-⊖, negsuc_⊖, ⊖-≡, ⊖-<)
