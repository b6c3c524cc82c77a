-- Arrays of 8 whole numbers under rounds of running sums: rounds after rounds, that they fit, some at a time, and that n+1 leave the sums g_i.
use mathlib.Core.Path.{◌≡◌, refl, ◌∙◌}
use mathlib.Core.List.{List}
use Prim.Native.Nat.{ℕ, zero, suc, ◌+◌, ◌*◌, ◌-◌, ◌^◌, ◌≤◌}
use native.Mathlib.Nat.{le_trans, mul-le-mul_right, pow-le-pow_right, pow-suc}
use native.Mathlib.Omega.{arith}
use lib.Dec.{lit<, lit≤}
use lib.IntN.{ℤ, pos, ◌+ℤ◌, +ℤ_idl}
use lib.ListN.{length}
use Rattle.integer.specs.Sum
use Rattle.integer.specs.Within.{Within}
use Rattle.integer.proofs.Sum.{sum_cong}
use Rattle.integer.proofs.Within.{within-sum, within_more, shares-most}
use Rattle.hermite.specs.HalfSum.{g}
use Rattle.hermite.specs.Polynomial.{coefficient}
use Rattle.hermite.specs.RunningSums.{one_round, rounds}
use Rattle.hermite.proofs.RunningSums.{rounds-are-sums}
use Rattle.rounding.proofs.Agree.{Agree}
use Rattle.rounding.specs.Limits.{size_max}
use Rattle.knot_weights.specs.Machine.{Lists, Weights}
use Rattle.half_sum.specs.Machine.{Room}

-- rounds on what rounds left
after : (k j : ℕ) (w : ℕ → ℤ) (i : ℕ) → rounds k (rounds j w) i ≡ rounds (k + j) w i
unfolding rounds one_round
after zero j w i = let e : 0 + j ≡ j = omega arith in rw e refl
after (suc k) j w i =
    let e : suc k + j ≡ suc (k + j) = omega arith in
    rw e (sum_cong i _ _ (λ x h. after k j w x))

-- entries past 7 change none of the first 8
agree : (k : ℕ) {v w : ℕ → ℤ} → Agree 7 v w → Agree 7 (rounds k v) (rounds k w)
unfolding rounds one_round
agree zero e = e
agree (suc k) e = λ i h. sum_cong i _ _ (λ x b. agree k e x (omega arith))

pub more-rounds : (w : List ℤ) {v u : List ℤ} (k j : ℕ) → Lists v (rounds j (coefficient w)) → Lists u (rounds k (coefficient v)) →
    Lists u (rounds (k + j) (coefficient w))
more-rounds w k j first then =
    record { count = then.count; entry = λ i h. then.entry i h ∙ agree k first.entry i h ∙ after k j (coefficient w) i }

-- ---- one round, entry by entry

-- the sum of the entries below one
unfoldable pub sum_below : (ℕ → ℤ) → ℕ → ℤ
sum_below w zero = pos 0
sum_below w (suc i) = rounds 1 w i

pub sum_below-more : (w : ℕ → ℤ) (i : ℕ) → sum_below w i +ℤ w i ≡ rounds 1 w i
unfolding sum_below rounds one_round Sum.sum
sum_below-more w zero = +ℤ_idl (w 0)
sum_below-more w (suc i) = refl

pub none_is : (w : ℕ → ℤ) (j : ℕ) → rounds 0 w j ≡ w j
unfolding rounds
none_is w j = refl

-- ---- that they fit

pub room_less : {w : List ℤ} (k j : ℕ) → j ≤ k → Room k w → Room j w
room_less k j h room = record { count = room.count; fits = λ x i b. room.fits x i (le_trans b h) }

-- what is left of the room after j rounds
pub room-left : {w v : List ℤ} (k j : ℕ) → Room (k + j) w → Lists v (rounds j (coefficient w)) → Room k v
room-left {w} {v} k j room lists = record {
  count = lists.count;
  fits = λ x i h b. rw (agree x lists.entry i b, after x j (coefficient w) i) (room.fits (x + j) i (omega arith) b);
}

-- a round makes 8 numbers at most 8 times as large
rounds-within : (k : ℕ) {B : ℕ} {w : ℕ → ℤ} → ((j : ℕ) → j ≤ 7 → Within B (w j)) → (i : ℕ) → i ≤ 7 → Within (8 ^ k * B) (rounds k w i)
unfolding rounds one_round
rounds-within zero small i h = within_more (omega arith) (small i h)
rounds-within (suc k) {B} small i h =
    within_more (simp pow-suc (omega arith))
    (within-sum (8 ^ k * B) 8 i (λ j. 1) _ (le_trans (shares-most 1 i (λ j. 1) (λ j b. omega arith)) (omega arith))
    (λ j b. within_more (omega arith) (rounds-within k small j (omega arith))))

-- room for 9 rounds
pub weights-room : {w : List ℤ} (k : ℕ) → k ≤ 9 → Weights (7 * size_max) w → Room k w
weights-room {w} k h weights = record {
  count = weights.count;
  fits = λ j i b c. within_more
      (le_trans (mul-le-mul_right (7 * size_max) (pow-le-pow_right {n = 8} (lit< tt) (le_trans b h))) (lit≤ tt)) (rounds-within j weights.small i c);
}

-- ---- some of them at a time

-- of the rounds asked for on w₀, all but those due are made, and w is what they left
pub record Made (w₀ : List ℤ) (asked : ℕ) (w : List ℤ) (due : ℕ) : Type 0 where
  pub most : due ≤ asked
  pub lists : Lists w (rounds (asked - due) (coefficient w₀))

pub made_none : (w : List ℤ) (asked : ℕ) → 8 ≡ length w → Made w asked w asked
unfolding rounds
made_none w asked e =
    let none : asked - asked ≡ 0 = omega arith in
    record { most = omega arith; lists = record { count = e; entry = λ i h. rw none refl } }

module _ {w₀ : List ℤ} {asked : ℕ} {w : List ℤ} {due : ℕ} (made : Made w₀ asked w due) where
  pub made-room : (k : ℕ) → k ≤ due → Room asked w₀ → Room k w
  made-room k h room =
      let all : due + (asked - due) ≡ asked = omega (arith, made.most) in
      room_less due k h (room-left {w = w₀} due (asked - due) (rw all room) made.lists)

  pub made_more : {v : List ℤ} (k : ℕ) → k ≤ due → Lists v (rounds k (coefficient w)) → Made w₀ asked v (due - k)
  made_more k h lists =
      let all : asked - (due - k) ≡ k + (asked - due) = omega (arith, made.most) in
      let more = more-rounds w₀ k (asked - due) made.lists lists in
      record { most = omega (arith, made.most); lists = record { count = more.count; entry = λ i b. rw all (more.entry i b) } }

  pub made_all : due ≡ 0 → Lists w (rounds asked (coefficient w₀))
  made_all e =
      let all : asked - due ≡ asked = omega arith in
      record { count = made.lists.count; entry = λ i h. rw all at (made.lists.entry i h) }

-- ---- as step 1's sums

pub lists-sums : (n : ℕ) (w : List ℤ) {v : List ℤ} → Lists v (rounds (n + 1) (coefficient w)) → Lists v (g n (coefficient w))
lists-sums n w lists = record { count = lists.count; entry = λ i h. lists.entry i h ∙ rounds-are-sums n (coefficient w) i }
