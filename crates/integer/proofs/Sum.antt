-- Laws of finite sums.
use mathlib.Core.Path.{◌≡◌, refl, sym, ◌∙◌, ap, ap₂, ◌≡⟨◌⟩◌, ◌∎}
use mathlib.Core.Logic.{◌≢◌}
use Prim.Native.Nat.{ℕ, zero, suc, ◌-◌, ◌≤◌}
use native.Mathlib.Omega.{arith}
use native.Mathlib.Decide.{ℕ_discrete}
use lib.IntN.{ℤ, pos, ◌+ℤ◌, ◌*ℤ◌, +ℤ_idl, +ℤ_idr, +ℤ_assoc}
use Rattle.integer.specs.Sum.{sum}
use Rattle.integer.proofs.Laws.{+ℤ_interchange, *ℤ_distrib, combination-times}

pub sum_cong : (m : ℕ) (f h : ℕ → ℤ) → ((j : ℕ) → j ≤ m → f j ≡ h j) → sum m f ≡ sum m h
unfolding sum
sum_cong zero f h e = e zero (omega arith)
sum_cong (suc m) f h e = ap₂ (λ x y. x +ℤ y) (sum_cong m f h (λ j b. e j (omega arith))) (e (suc m) (omega arith))

pub sum-+ : (m : ℕ) (f h : ℕ → ℤ) → sum m (λ j. f j +ℤ h j) ≡ sum m f +ℤ sum m h
unfolding sum
sum-+ zero f h = refl
sum-+ (suc m) f h = ap (λ x. x +ℤ (f (suc m) +ℤ h (suc m))) (sum-+ m f h) ∙ +ℤ_interchange (sum m f) (sum m h) (f (suc m)) (h (suc m))

pub sum-* : (m : ℕ) (x : ℤ) (f : ℕ → ℤ) → sum m (λ j. x *ℤ f j) ≡ x *ℤ sum m f
unfolding sum
sum-* zero x f = refl
sum-* (suc m) x f = ap (λ y. y +ℤ x *ℤ f (suc m)) (sum-* m x f) ∙ sym (*ℤ_distrib x (sum m f) (f (suc m)))

-- a sum is linear in its weights h
pub sum-combines : (m : ℕ) (α β : ℤ) (f g h b : ℕ → ℤ) → ((j : ℕ) → h j ≡ α *ℤ f j +ℤ β *ℤ g j) →
    sum m (λ j. h j *ℤ b j) ≡ α *ℤ sum m (λ j. f j *ℤ b j) +ℤ β *ℤ sum m (λ j. g j *ℤ b j)
sum-combines m α β f g h b is =
    sum_cong m _ _ (λ j k. parted j) ∙ sum-+ m (λ j. α *ℤ (f j *ℤ b j)) (λ j. β *ℤ (g j *ℤ b j)) ∙
    ap₂ (λ x y. x +ℤ y) (sum-* m α (λ j. f j *ℤ b j)) (sum-* m β (λ j. g j *ℤ b j))
  where
    parted : (j : ℕ) → h j *ℤ b j ≡ α *ℤ (f j *ℤ b j) +ℤ β *ℤ (g j *ℤ b j)
    parted j = ap (λ x. x *ℤ b j) (is j) ∙ combination-times α β (f j) (g j) (b j)

pub sum_0 : (m : ℕ) (f : ℕ → ℤ) → ((j : ℕ) → j ≤ m → f j ≡ pos 0) → sum m f ≡ pos 0
unfolding sum
sum_0 zero f e = e zero (omega arith)
sum_0 (suc m) f e = ap₂ (λ x y. x +ℤ y) (sum_0 m f (λ j b. e j (omega arith))) (e (suc m) (omega arith))

-- the first summand apart
pub sum_first : (m : ℕ) (f : ℕ → ℤ) → sum (suc m) f ≡ f zero +ℤ sum m (λ j. f (suc j))
unfolding sum
sum_first zero f = refl
sum_first (suc m) f = ap (λ x. x +ℤ f (suc (suc m))) (sum_first m f) ∙ +ℤ_assoc (f zero) (sum m (λ j. f (suc j))) (f (suc (suc m)))

-- only one summand is not 0
pub sum-only : (m k : ℕ) (f : ℕ → ℤ) → k ≤ m → ((j : ℕ) → j ≤ m → j ≢ k → f j ≡ pos 0) → sum m f ≡ f k
unfolding sum
sum-only zero k f h e = let z : k ≡ 0 = omega arith in rw z
sum-only (suc m) k f h e = go (ℕ_discrete k (suc m)) (λ b. sum-only m k f b (λ j c d. e j (omega arith) d))
  where
    go : Dec (k ≡ suc m) → (k ≤ m → sum m f ≡ f k) → sum m f +ℤ f (suc m) ≡ f k
    go (yes z) ih = rw (z, sum_0 m f (λ j b. e j (omega arith) (omega arith))) (+ℤ_idl (f (suc m)))
    go (no z) ih = rw (e (suc m) (omega arith) (omega arith), ih (omega arith)) (+ℤ_idr (f k))

-- the pairs (j, i) with i + j at most m, by rows and by diagonals
pub triangle : (m : ℕ) (f : ℕ → ℕ → ℤ) → sum m (λ j. sum (m - j) (f j)) ≡ sum m (λ k. sum k (λ j. f j (k - j)))
unfolding sum
triangle zero f = refl
triangle (suc m) f =
    sum m (λ j. sum (suc m - j) (f j)) +ℤ sum (suc m - suc m) (f (suc m)) ≡⟨ ap₂ (λ x y. x +ℤ y)
    (sum_cong m _ _ (λ j h. longer j h) ∙ sum-+ m (λ j. sum (m - j) (f j)) (λ j. f j (suc m - j))) last ⟩
    (sum m (λ j. sum (m - j) (f j)) +ℤ sum m (λ j. f j (suc m - j))) +ℤ f (suc m) (suc m - suc m) ≡⟨ +ℤ_assoc (sum m (λ j. sum (m - j) (f j)))
    (sum m (λ j. f j (suc m - j))) (f (suc m) (suc m - suc m)) ⟩
    sum m (λ j. sum (m - j) (f j)) +ℤ (sum m (λ j. f j (suc m - j)) +ℤ f (suc m) (suc m - suc m)) ≡⟨
    ap (λ x. x +ℤ (sum m (λ j. f j (suc m - j)) +ℤ f (suc m) (suc m - suc m))) (triangle m f) ⟩
    sum m (λ k. sum k (λ j. f j (k - j))) +ℤ (sum m (λ j. f j (suc m - j)) +ℤ f (suc m) (suc m - suc m)) ∎
  where
    longer : (j : ℕ) → j ≤ m → sum (suc m - j) (f j) ≡ sum (m - j) (f j) +ℤ f j (suc m - j)
    longer j h = let e : suc m - j ≡ suc (m - j) = omega arith in rw e

    last : sum (suc m - suc m) (f (suc m)) ≡ f (suc m) (suc m - suc m)
    last = let e : suc m - suc m ≡ 0 = omega arith in rw e
