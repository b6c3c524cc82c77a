-- Request 6/14: what the reason of a call is, as far as its causes were looked at; and that it is the first product of the call's sequence
-- that exceeds the limit.
use borrow.Author.Tests.{ltb-true, ltb-false}
use mathlib.Core.Bool.{Bool, true, false, cond, true≢false}
use mathlib.Core.List.{List, [], ◌∷◌, ◌++◌}
use mathlib.Core.Option.{Option, none, some, some-ne-none, some-injective}
use mathlib.Core.Path.{◌≡◌, refl, sym, ◌∙◌, ap}
use Prim.Native.Nat.{ℕ, zero, suc, ◌≤◌, ◌<◌}
use native.Mathlib.Omega.{arith}
use lib.Dec.{eqb}
use lib.ListN.{length, get_or}
use Rattle.rounding.specs.Limits.{size_max}
use Rattle.scans.specs.SizeRule.{Spot, Product, exceeds, first_too_large}
use Rattle.scans.specs.RefusalTable.{Cause, first, bad_size}
use Rattle.scans.specs.Reason.{reason, First}

-- ---- another number than 6 has no reason

pub other-reason : (n : ℕ) (tested : List Product) → eqb n 6 ≡ false → reason (some n) tested ≡ none
other-reason n tested e = rw e refl

-- causes of other numbers
abbrev pub Others : List Cause → Type 0
Others [] = Unit
Others (c ∷ cs) = (eqb c.number 6 ≡ false) × Others cs

pub others : {n : ℕ} (cs : List Cause) → Others cs → first cs ≡ some n → eqb n 6 ≡ false
others [] o e = absurd (some-ne-none _ (sym e))
others {n} (c ∷ cs) o e = go c.holds e (others cs o.1)
  where
    go : (b : Bool) → cond b (some c.number) (first cs) ≡ some n → (first cs ≡ some n → eqb n 6 ≡ false) → eqb n 6 ≡ false
    go true q later = ap (λ m. eqb m 6) (sym (some-injective c.number n q)) ∙ o.0
    go false q later = later q

-- so a 6 comes from a later cause
pub others-passed : (a b : List Cause) → Others a → first (a ++ b) ≡ some 6 → first b ≡ some 6
others-passed [] b o e = e
others-passed (c ∷ a) b o e = go c.holds e (others-passed a b o.1)
  where
    go : (holds : Bool) → cond holds (some c.number) (first (a ++ b)) ≡ some 6 → (first (a ++ b) ≡ some 6 → first b ≡ some 6) → first b ≡ some 6
    go true q later = absurd (true≢false (sym (ap (λ n. eqb n 6) (some-injective c.number 6 q)) ∙ o.0))
    go false q later = later q

pub no_reason : (cs : List Cause) (tested : List Product) → Others cs → reason (first cs) tested ≡ none
no_reason cs tested o = go (first cs) (λ n. others {n = n} cs o)
  where
    go : (found : Option ℕ) → ((n : ℕ) → found ≡ some n → eqb n 6 ≡ false) → reason found tested ≡ none
    go none other = refl
    go (some n) other = other-reason n tested (other n refl)

-- ---- where the size rule is all that is left to ask, the reason is what is too large

pub size-reason : (tested : List Product) → reason (first (bad_size (first_too_large tested) ∷ [])) tested ≡ first_too_large tested
size-reason tested = go (first_too_large tested) refl
  where
    go : (found : Option Spot) → first_too_large tested ≡ found → reason (first (bad_size found ∷ [])) tested ≡ found
    go none e = refl
    go (some spot) e = e

-- a 6 of the size rule alone
pub size_six : (found : Option Spot) → first (bad_size found ∷ []) ≡ some 6 → found ≡ none → ⊥
size_six none six e = some-ne-none _ (sym six)
size_six (some spot) six e = some-ne-none _ e

-- ---- what is named is the first in the sequence

pub first-named : (tested : List Product) (spot : Spot) → first_too_large tested ≡ some spot → First tested spot
first-named [] spot e = absurd (some-ne-none _ (sym e))
first-named (p ∷ ps) spot e = go (exceeds p) refl e (first-named ps spot)
  where
    go : (b : Bool) → exceeds p ≡ b → cond b (some p.spot) (first_too_large ps) ≡ some spot → (first_too_large ps ≡ some spot → First ps spot) →
        First (p ∷ ps) spot
    go true over q later = record {
      earlier = [];
      named = p;
      later = ps;
      sequence = refl;
      spot_is = some-injective p.spot spot q;
      over = ltb-true size_max p.size over;
      earlier_kept = λ i h. absurd (omega arith);
    }
    go false kept q later = let rest = later q in record {
      earlier = p ∷ rest.earlier;
      named = rest.named;
      later = rest.later;
      sequence = ap (λ l. p ∷ l) rest.sequence;
      spot_is = rest.spot_is;
      over = rest.over;
      earlier_kept = one_more rest;
    }
      where
        one_more : (rest : First ps spot) (i : ℕ) → i < length (p ∷ rest.earlier) → (get_or (p ∷ rest.earlier) i rest.named).size ≤ size_max
        one_more rest zero h = ltb-false size_max p.size kept
        one_more rest (suc i) h = rest.earlier_kept i (omega arith)
