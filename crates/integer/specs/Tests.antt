-- Tests, as yes or no: of two whole numbers, of two lists place by place; and the first of a list that passes a test.
use Rattle.std.specs.Prelude.{Bool, true, false, ◌&&◌, cond, List, [], ◌∷◌, eqb, ℤ, pos, negsuc}
use Rattle.std.proofs.Math.Option.{Option, none, some}

-- two whole numbers are equal
abbrev pub equal : ℤ → ℤ → Bool
equal (pos a) (pos b) = eqb a b
equal (pos a) (negsuc b) = false
equal (negsuc a) (pos b) = false
equal (negsuc a) (negsuc b) = eqb a b

-- two lists have as many entries, and the two at each place pass a test
abbrev pub pairwise : {A : Type 0} → (A → A → Bool) → List A → List A → Bool
pairwise test [] [] = true
pairwise test [] (y ∷ ys) = false
pairwise test (x ∷ xs) [] = false
pairwise test (x ∷ xs) (y ∷ ys) = test x y && pairwise test xs ys

-- the first of a list that passes a test: what `told` says of it
abbrev pub first_of : {A B : Type 0} → (A → Bool) → (A → B) → List A → Option B
first_of test told [] = none
first_of test told (x ∷ xs) = cond (test x) (some (told x)) (first_of test told xs)
