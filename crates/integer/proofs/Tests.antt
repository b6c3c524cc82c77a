-- What the tests say: `equal` is true exactly where the numbers are equal, `pairwise` where the lists have as many entries and the two at
-- each place pass; and what `first_of` finds in two lists one after the other.
use borrow.Author.Tests.{eqb-true, eq-eqb, ne_eqb}
use mathlib.Core.Bool.{Bool, true, false, ◌&&◌, cond, true≢false}
use mathlib.Core.List.{List, [], ◌∷◌, ◌++◌}
use mathlib.Core.Option.{Option, none, some, some-ne-none}
use mathlib.Core.Path.{◌≡◌, refl, sym, ◌∙◌, ap, ap₂}
use Prim.Native.Nat.{ℕ, zero, suc, ◌<◌}
use native.Mathlib.Omega.{arith}
use lib.Dec.{eqb}
use lib.IntN.{ℤ, pos, negsuc, ℤ_discrete}
use lib.ListN.{length, get_or}
use mir.Syntax.{Width}
use mir.Val.{SFits, to_z, of_z}
use mir.Facts.{to_z-of_z}
use Rattle.integer.specs.Tests.{equal, pairwise, first_of}

-- both of two tests
pub both_first : (a b : Bool) → (a && b) ≡ true → a ≡ true
both_first true b e = refl
both_first false b e = e

pub both-second : (a b : Bool) → (a && b) ≡ true → b ≡ true
both-second true b e = e
both-second false b e = absurd (true≢false (sym e))

pub both : {a b : Bool} → a ≡ true → b ≡ true → (a && b) ≡ true
both {a} {b} p q = rw (p, q)

-- what is not a yes is a no
pub not_yes : (b : Bool) → (b ≡ true → ⊥) → b ≡ false
not_yes true h = absurd (h refl)
not_yes false h = refl

pub equal→eq : (x y : ℤ) → equal x y ≡ true → x ≡ y
equal→eq (pos a) (pos b) e = ap pos (eqb-true a b e)
equal→eq (pos a) (negsuc b) e = absurd (true≢false (sym e))
equal→eq (negsuc a) (pos b) e = absurd (true≢false (sym e))
equal→eq (negsuc a) (negsuc b) e = ap negsuc (eqb-true a b e)

pub equal_self : (x : ℤ) → equal x x ≡ true
equal_self (pos a) = eq-eqb a a refl
equal_self (negsuc a) = eq-eqb a a refl

-- two numbers that fit are equal where their bits are
pub same_bits : (w : Width) (x y : ℤ) → SFits w x → SFits w y → eqb (of_z w x) (of_z w y) ≡ equal x y
same_bits w x y f g = go (ℤ_discrete x y)
  where
    go : Dec (x ≡ y) → eqb (of_z w x) (of_z w y) ≡ equal x y
    go (yes e) = rw e (eq-eqb (of_z w y) (of_z w y) refl ∙ sym (equal_self y))
    go (no e) = ne_eqb (of_z w x) (of_z w y) (λ q. e (sym (to_z-of_z f) ∙ ap (to_z w) q ∙ to_z-of_z g)) ∙ sym (not_yes (equal x y) (λ q. e (equal→eq x y q)))

-- ---- two lists, place by place

module _ {A : Type 0} (test : A → A → Bool) where
  pub pairs_at : (absent : A) (xs ys : List A) → pairwise test xs ys ≡ true → (k : ℕ) → k < length xs → test (get_or xs k absent) (get_or ys k absent) ≡ true
  pairs_at absent [] ys e k h = absurd (omega arith)
  pairs_at absent (x ∷ xs) [] e k h = absurd (true≢false (sym e))
  pairs_at absent (x ∷ xs) (y ∷ ys) e zero h = both_first (test x y) _ e
  pairs_at absent (x ∷ xs) (y ∷ ys) e (suc k) h = pairs_at absent xs ys (both-second (test x y) _ e) k (omega arith)

  pub pairs-counts : (xs ys : List A) → pairwise test xs ys ≡ true → length xs ≡ length ys
  pairs-counts [] [] e = refl
  pairs-counts [] (y ∷ ys) e = absurd (true≢false (sym e))
  pairs-counts (x ∷ xs) [] e = absurd (true≢false (sym e))
  pairs-counts (x ∷ xs) (y ∷ ys) e = ap suc (pairs-counts xs ys (both-second (test x y) _ e))

  pub pairs-all : (absent : A) (xs ys : List A) → length xs ≡ length ys →
      ((k : ℕ) → k < length xs → test (get_or xs k absent) (get_or ys k absent) ≡ true) → pairwise test xs ys ≡ true
  pairs-all absent [] [] n h = refl
  pairs-all absent [] (y ∷ ys) n h = absurd (omega arith)
  pairs-all absent (x ∷ xs) [] n h = absurd (omega arith)
  pairs-all absent (x ∷ xs) (y ∷ ys) n h = both (h zero (omega arith)) (pairs-all absent xs ys (omega arith) (λ k b. h (suc k) (omega arith)))

  pub pairs_unlike : (xs ys : List A) → (length xs ≡ length ys → ⊥) → pairwise test xs ys ≡ false
  pairs_unlike xs ys h = not_yes (pairwise test xs ys) (λ e. h (pairs-counts xs ys e))

  pub pairs_fail : (absent : A) (xs ys : List A) (k : ℕ) → k < length xs → test (get_or xs k absent) (get_or ys k absent) ≡ false → pairwise test xs ys ≡ false
  pairs_fail absent xs ys k h fails = not_yes (pairwise test xs ys) (λ e. true≢false (sym (pairs_at absent xs ys e k h) ∙ fails))

  -- by a test that only equals pass, the lists are equal
  pub pairs-equal : ((x y : A) → test x y ≡ true → x ≡ y) → (xs ys : List A) → pairwise test xs ys ≡ true → xs ≡ ys
  pairs-equal only [] [] e = refl
  pairs-equal only [] (y ∷ ys) e = absurd (true≢false (sym e))
  pairs-equal only (x ∷ xs) [] e = absurd (true≢false (sym e))
  pairs-equal only (x ∷ xs) (y ∷ ys) e =
      ap₂ (λ v vs. v ∷ vs) (only x y (both_first (test x y) _ e)) (pairs-equal only xs ys (both-second (test x y) _ e))

  pub pairs_itself : ((x : A) → test x x ≡ true) → (xs : List A) → pairwise test xs xs ≡ true
  pairs_itself self [] = refl
  pairs_itself self (x ∷ xs) = both (self x) (pairs_itself self xs)

-- ---- the first that passes

none_first : {B : Type 0} (b : Bool) (x : B) (rest : Option B) → cond b (some x) rest ≡ none → (b ≡ false) × (rest ≡ none)
none_first true x rest e = absurd (some-ne-none _ e)
none_first false x rest e = (refl, e)

some_first : {B : Type 0} (b : Bool) (x : B) {y : B} (now later : Option B) → (now ≡ some y → later ≡ some y) →
    cond b (some x) now ≡ some y → cond b (some x) later ≡ some y
some_first true x now later f e = e
some_first false x now later f e = f e

module _ {A : Type 0} (test : A → Bool) where
  -- none passes
  abbrev pub NonePasses : List A → Type 0
  NonePasses [] = Unit
  NonePasses (x ∷ xs) = (test x ≡ false) × NonePasses xs

  pub none_both : (xs ys : List A) → NonePasses xs → NonePasses ys → NonePasses (xs ++ ys)
  none_both [] ys p q = q
  none_both (x ∷ xs) ys p q = (p.0, none_both xs ys p.1 q)

  pub none_left : (xs ys : List A) → NonePasses (xs ++ ys) → NonePasses xs
  none_left [] ys q = tt
  none_left (x ∷ xs) ys q = (q.0, none_left xs ys q.1)

  pub none_right : (xs ys : List A) → NonePasses (xs ++ ys) → NonePasses ys
  none_right [] ys q = q
  none_right (x ∷ xs) ys q = none_right xs ys q.1

  module _ {B : Type 0} (told : A → B) where
    pub none_passes : (xs : List A) → first_of test told xs ≡ none → NonePasses xs
    none_passes [] e = tt
    none_passes (x ∷ xs) e = let p = none_first (test x) (told x) (first_of test told xs) e in (p.0, none_passes xs p.1)

    pub no_first : (xs : List A) → NonePasses xs → first_of test told xs ≡ none
    no_first [] q = refl
    no_first (x ∷ xs) q = rw q.0 (no_first xs q.1)

    pub first_of_found : {y : B} (xs ys : List A) → first_of test told xs ≡ some y → first_of test told (xs ++ ys) ≡ some y
    first_of_found [] ys e = absurd (some-ne-none _ (sym e))
    first_of_found (x ∷ xs) ys e = some_first (test x) (told x) (first_of test told xs) (first_of test told (xs ++ ys)) (first_of_found xs ys) e

    pub first_of_later : (xs ys : List A) → first_of test told xs ≡ none → first_of test told (xs ++ ys) ≡ first_of test told ys
    first_of_later [] ys e = refl
    first_of_later (x ∷ xs) ys e = let p = none_first (test x) (told x) (first_of test told xs) e in rw p.0 (first_of_later xs ys p.1)
