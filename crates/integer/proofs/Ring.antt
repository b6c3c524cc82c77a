-- Tool: identities of a commutative ring, by computing. Both sides are written as terms over the numbers that the caller lists,
-- and the difference is multiplied out: each coefficient that is left must be 0.
use mathlib.Core.Path.{◌≡◌, refl, sym, ◌∙◌, ap, ap₂}
use mathlib.Core.Bool.{Bool, true, false, cond, ◌&&◌}
use mathlib.Core.List.{List, [], ◌∷◌}
use Prim.Native.Nat.{ℕ, zero, suc, ◌+◌}
use lib.Dec.{T, eqb, eqb→eq}
use lib.ListN.{get_or}
use lib.IntN.{ℤ, pos, negsuc, neg_ℤ, one, pow, ◌+ℤ◌, ◌*ℤ◌, +ℤ_assoc, +ℤ_idl, +ℤ_idr, -ℤ-+ℤ_cancel, zero-*ℤ, *ℤ-zero, *ℤ-one}
use native.Mathlib.Nat.{zero-add, add-zero, add-suc, suc-add}
use Rattle.integer.proofs.Laws.{+ℤ-left_comm, *ℤ_distrib, *ℤ_distrib_right, *ℤ_assoc, *ℤ_interchange, neg-*ℤ, one-*ℤ}

-- ---- terms over numbered variables, and their values

infixl 6 ◌⊞◌
infixl 7 ◌⊠◌
infix 8 ⊟◌
pub data Term : Type 0 where
  var lit : ℕ → Term
  ◌⊞◌ ◌⊠◌ : Term → Term → Term
  ⊟◌ : Term → Term

pub value : (ℕ → ℤ) → Term → ℤ
value ρ (var i) = ρ i
value ρ (lit n) = pos n
value ρ (a ⊞ b) = value ρ a +ℤ value ρ b
value ρ (a ⊠ b) = value ρ a *ℤ value ρ b
value ρ (⊟ a) = neg_ℤ (value ρ a)

-- ---- sums of monomials: a coefficient, and the exponent of each variable in turn

infix 5 ◌·◌
pub data Monomial : Type 0 where
  ◌·◌ : ℤ → List ℕ → Monomial

powers : (ℕ → ℤ) → ℕ → List ℕ → ℤ
powers ρ i [] = one
powers ρ i (e ∷ es) = pow (ρ i) e *ℤ powers ρ (suc i) es

weigh : (ℕ → ℤ) → Monomial → ℤ
weigh ρ (c · es) = c *ℤ powers ρ zero es

total : (ℕ → ℤ) → List Monomial → ℤ
total ρ [] = pos zero
total ρ (t ∷ ts) = weigh ρ t +ℤ total ρ ts

abbrev joined : List ℕ → List ℕ → List ℕ
joined [] fs = fs
joined (e ∷ es) [] = e ∷ es
joined (e ∷ es) (f ∷ fs) = (e + f) ∷ joined es fs

abbrev same : List ℕ → List ℕ → Bool
same [] [] = true
same [] (f ∷ fs) = false
same (e ∷ es) [] = false
same (e ∷ es) (f ∷ fs) = eqb e f && same es fs

abbrev insert : Monomial → List Monomial → List Monomial
insert t [] = t ∷ []
insert (c · es) ((d · fs) ∷ ts) = cond (same es fs) (((c +ℤ d) · es) ∷ ts) ((d · fs) ∷ insert (c · es) ts)

abbrev add : List Monomial → List Monomial → List Monomial
add [] us = us
add (t ∷ ts) us = insert t (add ts us)

abbrev times : Monomial → List Monomial → List Monomial
times t [] = []
times (c · es) ((d · fs) ∷ ts) = ((c *ℤ d) · joined es fs) ∷ times (c · es) ts

abbrev multiply : List Monomial → List Monomial → List Monomial
multiply [] us = []
multiply (t ∷ ts) us = add (times t us) (multiply ts us)

abbrev single : ℕ → List ℕ
single zero = 1 ∷ []
single (suc i) = 0 ∷ single i

abbrev expand : Term → List Monomial
expand (var i) = (pos 1 · single i) ∷ []
expand (lit n) = (pos n · []) ∷ []
expand (a ⊞ b) = add (expand a) (expand b)
expand (a ⊠ b) = multiply (expand a) (expand b)
expand (⊟ a) = times (negsuc zero · []) (expand a)

abbrev zeros : List Monomial → Bool
zeros [] = true
zeros ((pos zero · es) ∷ ts) = zeros ts
zeros ((pos (suc n) · es) ∷ ts) = false
zeros ((negsuc n · es) ∷ ts) = false

-- ---- each step keeps the value

pow_+ : (x : ℤ) (e f : ℕ) → pow x (e + f) ≡ pow x e *ℤ pow x f
unfolding pow
pow_+ x e zero = rw add-zero (sym (*ℤ-one (pow x e)))
pow_+ x e (suc f) = rw add-suc (ap (λ y. y *ℤ x) (pow_+ x e f) ∙ *ℤ_assoc (pow x e) (pow x f) x)

powers-joined : (ρ : ℕ → ℤ) (i : ℕ) (es fs : List ℕ) → powers ρ i (joined es fs) ≡ powers ρ i es *ℤ powers ρ i fs
unfolding powers
powers-joined ρ i [] fs = sym (one-*ℤ (powers ρ i fs))
powers-joined ρ i (e ∷ es) [] = sym (*ℤ-one (powers ρ i (e ∷ es)))
powers-joined ρ i (e ∷ es) (f ∷ fs) = ap₂ (λ x y. x *ℤ y) (pow_+ (ρ i) e f) (powers-joined ρ (suc i) es fs) ∙
    *ℤ_interchange (pow (ρ i) e) (pow (ρ i) f) (powers ρ (suc i) es) (powers ρ (suc i) fs)

same→eq : (es fs : List ℕ) → T (same es fs) → es ≡ fs
same→eq [] [] t = refl
same→eq [] (f ∷ fs) t = absurd t
same→eq (e ∷ es) [] t = absurd t
same→eq (e ∷ es) (f ∷ fs) t = go (eqb e f) (eqb→eq e f) (same→eq es fs) t
  where
    go : (b : Bool) → (T b → e ≡ f) → (T (same es fs) → es ≡ fs) → T (b && same es fs) → e ∷ es ≡ f ∷ fs
    go true h k t = ap₂ (λ x y. x ∷ y) (h tt) (k t)
    go false h k t = absurd t

insert-value : (ρ : ℕ → ℤ) (t : Monomial) (ts : List Monomial) → total ρ (insert t ts) ≡ weigh ρ t +ℤ total ρ ts
unfolding total weigh
insert-value ρ (c · es) [] = refl
insert-value ρ (c · es) ((d · fs) ∷ ts) = go (same es fs) (same→eq es fs) (insert-value ρ (c · es) ts)
  where
    go : (b : Bool) → (T b → es ≡ fs) → total ρ (insert (c · es) ts) ≡ weigh ρ (c · es) +ℤ total ρ ts →
        total ρ (cond b (((c +ℤ d) · es) ∷ ts) ((d · fs) ∷ insert (c · es) ts)) ≡ weigh ρ (c · es) +ℤ (weigh ρ (d · fs) +ℤ total ρ ts)
    go true h k = rw (← h tt) (ap (λ x. x +ℤ total ρ ts) (*ℤ_distrib_right c d (powers ρ zero es)) ∙
        +ℤ_assoc (c *ℤ powers ρ zero es) (d *ℤ powers ρ zero es) (total ρ ts))
    go false h k = ap (λ x. d *ℤ powers ρ zero fs +ℤ x) k ∙ +ℤ-left_comm (d *ℤ powers ρ zero fs) (c *ℤ powers ρ zero es) (total ρ ts)

add-value : (ρ : ℕ → ℤ) (ts us : List Monomial) → total ρ (add ts us) ≡ total ρ ts +ℤ total ρ us
unfolding total
add-value ρ [] us = sym (+ℤ_idl (total ρ us))
add-value ρ (t ∷ ts) us = insert-value ρ t (add ts us) ∙ ap (λ x. weigh ρ t +ℤ x) (add-value ρ ts us) ∙ sym (+ℤ_assoc (weigh ρ t) (total ρ ts) (total ρ us))

times-value : (ρ : ℕ → ℤ) (t : Monomial) (ts : List Monomial) → total ρ (times t ts) ≡ weigh ρ t *ℤ total ρ ts
unfolding total weigh
times-value ρ (c · es) [] = sym (*ℤ-zero (weigh ρ (c · es)))
times-value ρ (c · es) ((d · fs) ∷ ts) =
    ap₂ (λ x y. x +ℤ y) (ap (λ x. (c *ℤ d) *ℤ x) (powers-joined ρ zero es fs) ∙ *ℤ_interchange c d (powers ρ zero es) (powers ρ zero fs))
    (times-value ρ (c · es) ts) ∙
    sym (*ℤ_distrib (weigh ρ (c · es)) (weigh ρ (d · fs)) (total ρ ts))

multiply-value : (ρ : ℕ → ℤ) (ts us : List Monomial) → total ρ (multiply ts us) ≡ total ρ ts *ℤ total ρ us
unfolding total
multiply-value ρ [] us = sym (zero-*ℤ (total ρ us))
multiply-value ρ (t ∷ ts) us = add-value ρ (times t us) (multiply ts us) ∙ ap₂ (λ x y. x +ℤ y) (times-value ρ t us) (multiply-value ρ ts us) ∙
    sym (*ℤ_distrib_right (weigh ρ t) (total ρ ts) (total ρ us))

single-value : (ρ : ℕ → ℤ) (i k : ℕ) → powers ρ k (single i) ≡ ρ (k + i)
unfolding powers pow
single-value ρ zero k = rw add-zero (*ℤ-one (one *ℤ ρ k) ∙ one-*ℤ (ρ k))
single-value ρ (suc i) k = rw add-suc (one-*ℤ (powers ρ (suc k) (single i)) ∙ single-value ρ i (suc k) ∙ ap ρ (suc-add k i))

minus_one : (x : ℤ) → negsuc zero *ℤ x ≡ neg_ℤ x
unfolding one
minus_one x = neg-*ℤ one x ∙ ap neg_ℤ (one-*ℤ x)

expand-value : (ρ : ℕ → ℤ) (a : Term) → total ρ (expand a) ≡ value ρ a
unfolding value total weigh powers one
expand-value ρ (var i) = +ℤ_idr (one *ℤ powers ρ zero (single i)) ∙ one-*ℤ (powers ρ zero (single i)) ∙ single-value ρ i zero ∙ ap ρ (zero-add i)
expand-value ρ (lit n) = +ℤ_idr (pos n *ℤ powers ρ zero []) ∙ *ℤ-one (pos n)
expand-value ρ (a ⊞ b) = add-value ρ (expand a) (expand b) ∙ ap₂ (λ x y. x +ℤ y) (expand-value ρ a) (expand-value ρ b)
expand-value ρ (a ⊠ b) = multiply-value ρ (expand a) (expand b) ∙ ap₂ (λ x y. x *ℤ y) (expand-value ρ a) (expand-value ρ b)
expand-value ρ (⊟ a) = times-value ρ (negsuc zero · []) (expand a) ∙ minus_one (total ρ (expand a)) ∙ ap neg_ℤ (expand-value ρ a)

zeros-value : (ρ : ℕ → ℤ) (ts : List Monomial) → T (zeros ts) → total ρ ts ≡ pos zero
unfolding total weigh
zeros-value ρ [] t = refl
zeros-value ρ ((pos zero · es) ∷ ts) t = rw (zero-*ℤ (powers ρ zero es), zeros-value ρ ts t)
zeros-value ρ ((pos (suc n) · es) ∷ ts) t = absurd t
zeros-value ρ ((negsuc n · es) ∷ ts) t = absurd t

-- ---- the tool

-- two terms have one value if their difference expands to zeros
pub solve : (ρ : ℕ → ℤ) (a b : Term) → T (zeros (expand (a ⊞ ⊟ b))) → value ρ a ≡ value ρ b
unfolding value
solve ρ a b t = sym (-ℤ-+ℤ_cancel (value ρ a) (value ρ b)) ∙ ap (λ x. x +ℤ value ρ b) nothing ∙ +ℤ_idl (value ρ b)
  where
    nothing : value ρ (a ⊞ ⊟ b) ≡ pos zero
    nothing = sym (expand-value ρ (a ⊞ ⊟ b)) ∙ zeros-value ρ (expand (a ⊞ ⊟ b)) t

-- gives the listed numbers names: `y i` turns the i-th into a variable of a term
pub lets : {P : Type 0} (xs : List ℤ) → ((ρ : ℕ → ℤ) → ((i : ℕ) → get_or xs i (pos zero) ≡ value ρ (var i)) → P) → P
unfolding value
lets xs k = k (λ i. get_or xs i (pos zero)) (λ i. refl)

-- and so do these turn a literal of either sign, a sum, a product and a negation into terms
pub as_lit : (ρ : ℕ → ℤ) (n : ℕ) → pos n ≡ value ρ (lit n)
unfolding value
as_lit ρ n = refl

pub as_minus : (ρ : ℕ → ℤ) (n : ℕ) → negsuc n ≡ value ρ (⊟ lit (suc n))
unfolding value
as_minus ρ n = refl

pub as_sum : (ρ : ℕ → ℤ) (a b : Term) → value ρ a +ℤ value ρ b ≡ value ρ (a ⊞ b)
unfolding value
as_sum ρ a b = refl

pub as_product : (ρ : ℕ → ℤ) (a b : Term) → value ρ a *ℤ value ρ b ≡ value ρ (a ⊠ b)
unfolding value
as_product ρ a b = refl

pub as_negation : (ρ : ℕ → ℤ) (a : Term) → neg_ℤ (value ρ a) ≡ value ρ (⊟ a)
unfolding value
as_negation ρ a = refl

pub ruleset terms = (as_sum, as_product, as_negation)
