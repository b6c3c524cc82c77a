-- How large the numbers of a piece can get: laws about the definitions, from which everything fits in 64 bits.
use mathlib.Core.Path.{◌≡◌, refl}
use mathlib.Core.List.{List}
use Prim.Native.Nat.{ℕ, zero, suc, ◌+◌, ◌*◌, ◌-◌, ◌^◌, ◌≤◌, ◌<◌}
use native.Mathlib.Nat.{pow-le-pow_left, pow-le-pow_right, one-le-pow, le_trans, le-mul_of_pos_right, mul-le-mul_left, mul-le-mul_right}
use native.Mathlib.Nat.{lt_of_mul-lt-mul_right}
use native.Mathlib.Decide.{dec_lt}
use native.Mathlib.Omega.{arith}
use lib.Dec.{lit<, lit≤}
use lib.IntN.{ℤ, pos, negsuc, ◌-ℤ◌, ◌*ℤ◌, nat_abs, zero-*ℤ}
use lib.ListN.{length, get_or, get_or-eq_default}
use Rattle.integer.specs.Sum.{sum}
use Rattle.integer.specs.Within.{Within}
use Rattle.integer.proofs.Claim.{◌≗◌, upto, sound}
use Rattle.integer.proofs.Difference.{as_⊖, differences}
use Rattle.integer.proofs.Within.{shares, within-sum, within_more, within-add, within_mul, within-neg, within-natural, within-size}
use Rattle.hermite.specs.Binomial.{binomial, sign}
use Rattle.hermite.specs.Blend.{right_weights}
use Rattle.hermite.specs.HalfSum.{value_unit, g}
use Rattle.hermite.specs.Slope.{primed, kappa, sum_k}
use Rattle.hermite.specs.Water.{water_unit, c}
use Rattle.rounding.specs.Scaling.{rounded, scaled, scaled_times}
use Rattle.rounding.specs.HalfSum.{descended, half_sum, lower_half_sum}
use Rattle.rounding.specs.Piece.{weight}
use Rattle.rounding.specs.Limits.{grade_max, gap_max, size_max}
use Rattle.rounding.specs.Size.{Sized}
use Rattle.rounding.specs.Trend.{scaled_k}
use Rattle.rounding.proofs.Scaling.{nearest}

-- where z/d lies from −B to B, so does its rounding
rounded-within : {B : ℕ} (z : ℤ) (d : ℕ) → 0 < d → Within (B * d) z → Within B (rounded z d)
rounded-within {B} z d h w = go (rounded z d) (nearest z d h).near
  where
    most : (x : ℕ) → 2 * (x * d) ≤ 2 * (B * d) + d → x ≤ B
    most x b =
        let less : x < B + 1 = lt_of_mul-lt-mul_right d (omega arith) in
        omega arith

    above : (x : ℕ) → 2 * nat_abs (z -ℤ pos x *ℤ pos d) ≤ d → 2 * (x * d) ≤ 2 * (B * d) + d
    above x = rw (as_⊖ z) (simp differences (λ near. omega (arith, w.hi)))

    below : (x : ℕ) → 2 * nat_abs (z -ℤ negsuc x *ℤ pos d) ≤ d → 2 * (suc x * d) ≤ 2 * (B * d) + d
    below x = rw (as_⊖ z) (simp differences (λ near. omega (arith, w.lo)))

    go : (q : ℤ) → 2 * nat_abs (z -ℤ q *ℤ pos d) ≤ d → Within B q
    go (pos x) near = record { hi = most x (above x near); lo = omega arith }
    go (negsuc x) near = record { hi = omega arith; lo = most (suc x) (below x near) }

pub scaled-within : {B : ℕ} (u : ℤ) (a d : ℕ) → 0 < d → a ≤ d → Within B u → Within B (scaled u a d)
unfolding scaled
scaled-within {B} u a d h k w = rounded-within (u *ℤ pos a) d h (within_more (mul-le-mul_left B k) (within_mul u (pos a) w (within-natural a)))

pub times-within : {B : ℕ} (k : ℕ) (u : ℤ) (a d : ℕ) → 0 < d → a ≤ d → Within B u → Within B (scaled_times k u a d)
unfolding scaled_times
times-within zero u a d h b w = w
times-within (suc k) u a d h b w = scaled-within (scaled_times k u a d) a d h b (times-within k u a d h b w)

pub sign-within : (j : ℕ) → Within 1 (sign j)
unfolding sign
sign-within zero = within-natural 1
sign-within (suc j) = within-neg (sign j) (sign-within j)

pub primed-within : {B : ℕ} (w : ℕ → ℤ) (j : ℕ) → j ≤ 6 → Within B (w (j + 1)) → Within (7 * B) (primed w j)
unfolding primed
primed-within w j h b = within_mul (pos (j + 1)) (w (j + 1)) (within_more {B = 7} (omega arith) (within-natural (j + 1))) b

-- h^j, of a gap and an order
pub power_small : (h j : ℕ) → h ≤ gap_max → j ≤ grade_max → h ^ j ≤ 2 ^ 28
power_small h j a b = le_trans (pow-le-pow_left a j) (pow-le-pow_right {n = gap_max} (lit< tt) b)

-- a knot's weights, by the size rule, with and without their signs; past the list they are 0
product-within : (C : ℤ) (power : ℕ) → nat_abs C * power ≤ size_max → Within size_max (C *ℤ pos power)
product-within C power h = within_more h (within_mul C (pos power) (within-size C) (within-natural power))

pub sized_within : (h : ℕ) (C : List ℤ) (j : ℕ) → Sized h C → Within size_max (weight h C j)
sized_within h C j kept = go (dec_lt j (length C))
  where
    go : Dec (j < length C) → Within size_max (weight h C j)
    go (yes b) = product-within (get_or C j (pos 0)) (h ^ j) (kept j b)
    go (no b) = rw (get_or-eq_default C (pos 0) {n = j} (omega arith), zero-*ℤ (pos (h ^ j))) (within_more (lit≤ tt) (within-natural 0))

pub right_sized : (h : ℕ) (C : List ℤ) (j : ℕ) → Sized h C → Within size_max (right_weights (weight h C) j)
unfolding right_weights
right_sized h C j kept = within_mul (sign j) (weight h C j) (sign-within j) (sized_within h C j kept)

-- the size rule at a gap of one step or more gives it at one, and so a bound on the coefficients themselves
pub sized_one : (h : ℕ) (C : List ℤ) → 1 ≤ h → Sized h C → Sized 1 C
sized_one h C b kept j l = le_trans (mul-le-mul_left (nat_abs (get_or C j (pos 0))) (pow-le-pow_left b j)) (kept j l)

pub one-within : (C : List ℤ) → Sized 1 C → (j : ℕ) → j < length C → Within size_max (get_or C j (pos 0))
one-within C kept j l =
    within_more (le_trans (le-mul_of_pos_right _ (one-le-pow j 1 (omega arith))) (kept j l)) (within-size (get_or C j (pos 0)))

-- ---- the half-sum

-- the binomials that multiply the weights in g_i, added: at most 6,435, and at most 3,003 below order 7
binomials : ℕ → ℕ → ℕ
binomials n i = shares i (λ j. binomial (n + i - j) (i - j))

most_7 : (n : ℕ) → n ≤ 7 → (i : ℕ) → i ≤ 7 → binomials n i - 6435 ≡ 0
unfolding binomials shares binomial
most_7 = sound (upto 7 (λ n. upto 7 (λ i. binomials n i - 6435 ≗ 0))) refl

most_6 : (n : ℕ) → n ≤ 7 → (i : ℕ) → i ≤ 6 → binomials n i - 3003 ≡ 0
unfolding binomials shares binomial
most_6 = sound (upto 7 (λ n. upto 6 (λ i. binomials n i - 3003 ≗ 0))) refl

sums-within : (B Γ n i : ℕ) (w : ℕ → ℤ) → binomials n i - Γ ≡ 0 → ((j : ℕ) → j ≤ i → Within B (w j)) → Within (Γ * B) (g n w i)
unfolding binomials g
sums-within B Γ n i w most small =
    within-sum B Γ i (λ j. binomial (n + i - j) (i - j)) _ (omega arith)
    (λ j h. within_mul (pos (binomial (n + i - j) (i - j))) (w j) (within-natural (binomial (n + i - j) (i - j))) (small j h))

pub g_within : (B n i : ℕ) (w : ℕ → ℤ) → n ≤ 7 → i ≤ 7 → ((j : ℕ) → j ≤ i → Within B (w j)) → Within (6435 * B) (g n w i)
g_within B n i w hn hi = sums-within B 6435 n i w (most_7 n hn i hi)

-- u of step 2, after k turns over the sums G_i
descended-within : (Γ : ℕ) (G : ℕ → ℤ) (a d k i : ℕ) → 0 < d → a ≤ d → ((j : ℕ) → j ≤ i + k → Within Γ (G j)) →
    Within ((k + 1) * (value_unit * Γ)) (descended G a d k i)
unfolding descended
descended-within Γ G a d zero i h b small = within_more (omega arith) (within_mul (pos value_unit) (G i) (within-natural value_unit) (small i (omega arith)))
descended-within Γ G a d (suc k) i h b small =
    within_more (omega arith)
    (within-add (scaled (descended G a d k (suc i)) a d) (pos value_unit *ℤ G i)
    (scaled-within (descended G a d k (suc i)) a d h b (descended-within Γ G a d k (suc i) h b (λ j l. small j (omega arith))))
    (within_mul (pos value_unit) (G i) (within-natural value_unit) (small i (omega arith))))

-- on w' of weights that keep the size rule, of order up to 7, it fits at every turn
pub descended-fits : (G : ℕ → ℤ) (a d k i : ℕ) → 0 < d → a ≤ d → i + k ≤ 7 → ((j : ℕ) → j ≤ i + k → Within (6435 * (7 * size_max)) (G j)) →
    Within (2 ^ 63 - 1) (descended G a d k i)
descended-fits G a d k i h b l small =
    let turns : k + 1 ≤ 8 = omega arith in
    within_more (le_trans (mul-le-mul_right (value_unit * (6435 * (7 * size_max))) turns) (lit≤ tt))
    (descended-within (6435 * (7 * size_max)) G a d k i h b small)

half_sum-within : (Γ m n a d : ℕ) (w : ℕ → ℤ) → 0 < d → a ≤ d → ((i : ℕ) → i ≤ m → Within Γ (g n w i)) → Within ((m + 1) * (value_unit * Γ)) (half_sum m n a d w)
unfolding half_sum
half_sum-within Γ m n a d w h b small = times-within (n + 1) _ (d - a) d h (omega arith) (descended-within Γ (g n w) a d m 0 h b (λ j l. small j (omega arith)))

-- on weights that keep the size rule a half-sum is below 2^61, and so a value fits
pub half-within : (m n a d : ℕ) (w : ℕ → ℤ) → m ≤ 7 → n ≤ 7 → 0 < d → a ≤ d → ((j : ℕ) → j ≤ m → Within size_max (w j)) → Within (2 ^ 61) (half_sum m n a d w)
half-within m n a d w hm hn h b small =
    let turns : m + 1 ≤ 8 = omega arith in
    within_more (le_trans (mul-le-mul_right (value_unit * (6435 * size_max)) turns) (lit≤ tt))
    (half_sum-within (6435 * size_max) m n a d w h b (λ i l. g_within size_max n i w hn (omega arith) (λ j k. small j (omega arith))))

-- ---- the trend

-- Y1 and Y2
pub lower-within : (m n a d : ℕ) (w : ℕ → ℤ) → m ≤ 7 → n ≤ 7 → 0 < d → a ≤ d → ((j : ℕ) → j ≤ m → Within size_max (w j)) →
    Within (7 * (value_unit * (3003 * (7 * size_max)))) (lower_half_sum m n a d w)
unfolding lower_half_sum
lower-within zero n a d w hm hn h b small = within_more (lit≤ tt) (within-natural 0)
lower-within (suc m) n a d w hm hn h b small =
    within_more (mul-le-mul_right (value_unit * (3003 * (7 * size_max))) hm')
    (half_sum-within (3003 * (7 * size_max)) m n a d (primed w) h b
    (λ i l. sums-within (7 * size_max) 3003 n i (primed w) (most_6 n hn i (omega arith)) (λ j k. primed-within w j (omega arith) (small (j + 1) (omega arith)))))
  where
    hm' : m + 1 ≤ 7
    hm' = omega arith

-- what multiplies the weights in one sum of K, added: at most 91,520
kappas_most : (m : ℕ) → m ≤ 7 → (n : ℕ) → n ≤ 7 → shares m (kappa m n) - 91520 ≡ 0
unfolding shares kappa binomial
kappas_most = sound (upto 7 (λ m. upto 7 (λ n. shares m (kappa m n) - 91520 ≗ 0))) refl

pub sum_k-within : (m n : ℕ) (w : ℕ → ℤ) → m ≤ 7 → n ≤ 7 → ((j : ℕ) → j ≤ m → Within size_max (w j)) → Within (91520 * size_max) (sum_k m n w)
unfolding sum_k
sum_k-within m n w hm hn small =
    within-sum size_max 91520 m (kappa m n) _ (omega (arith, kappas_most m hm n hn))
    (λ j h. within_more (omega arith) (within_mul (w j) (pos (kappa m n j)) (small j h) (within-natural (kappa m n j))))

pub scaled_k-within : {B : ℕ} (m n r d : ℕ) (k : ℤ) → 0 < d → r ≤ d → Within B k → Within (value_unit * B) (scaled_k m n r d k)
unfolding scaled_k
scaled_k-within m n r d k h b w =
    times-within n _ (d - r) d h (omega arith) (times-within m _ r d h b (within_mul (pos value_unit) k (within-natural value_unit) w))

-- ---- the total

-- no entry of the table of integral weights is above 720,720
pub entry-most : (m : ℕ) → m ≤ 7 → (n : ℕ) → n ≤ 7 → (j : ℕ) → j ≤ 7 → c m n j - water_unit ≡ 0
unfolding c
entry-most = sound (upto 7 (λ m. upto 7 (λ n. upto 7 (λ j. c m n j - water_unit ≗ 0)))) refl

-- the integral weights of one end, added: at most 2 × 720,720
entries-most : (m : ℕ) → m ≤ 7 → (n : ℕ) → n ≤ 7 → shares m (c m n) - 2 * water_unit ≡ 0
unfolding shares c
entries-most = sound (upto 7 (λ m. upto 7 (λ n. shares m (c m n) - 2 * water_unit ≗ 0))) refl

pub side_within : (m n : ℕ) (w : ℕ → ℤ) → m ≤ 7 → n ≤ 7 → ((j : ℕ) → j ≤ m → Within size_max (w j)) →
    Within (2 * water_unit * size_max) (sum m (λ j. w j *ℤ pos (c m n j)))
side_within m n w hm hn small =
    within-sum size_max (2 * water_unit) m (c m n) _ (omega (arith, entries-most m hm n hn))
    (λ j h. within_more (omega arith) (within_mul (w j) (pos (c m n j)) (small j h) (within-natural (c m n j))))
