-- The readings at every stride-th word: how many, the i-th of them, and that with the count of `select` they are every n-th of a knot's readings.
use mathlib.Core.List.{List, [], ◌∷◌, map}
use mathlib.Core.Option.{Option, none, some, some-ne-none}
use mathlib.Core.Path.{◌≡◌, refl, sym, ◌∙◌, ap, ap₂}
use Prim.Native.Nat.{ℕ, zero, suc, ◌+◌, ◌*◌, ◌≤◌, ◌<◌}
use native.Mathlib.Decide.{dec_lt}
use native.Mathlib.Nat.{mul-le-mul_right}
use Rattle.std.specs.Int.{div_ceil}
use Rattle.std.proofs.lemmas.Grind.{div_ceil_times}
use native.Mathlib.Omega.{arith}
use lib.ListN.{length, take, drop, get_or, get_elem?}
use lib.Seq.{length-take-le, get_or-take, get_or-drop}
use Rattle.block.specs.Fields.{reading}
use Rattle.block.specs.View.{every_nth}
use Rattle.block.proofs.View.{every_nth_lem}
use Rattle.readings.specs.Machine.{strided}

pub strided-length : (ws : List ℕ) (start stride count : ℕ) → length (strided ws start stride count) ≡ count
strided-length ws start stride zero = refl
strided-length ws start stride (suc count) = ap suc (strided-length ws (start + stride) stride count)

pub strided_at : (ws : List ℕ) (start stride count i : ℕ) → i < count →
    get_elem? (strided ws start stride count) i ≡ some (reading (get_or ws (start + i * stride) 0))
strided_at ws start stride zero i h = absurd (omega arith)
strided_at ws start stride (suc count) zero h =
    let here : start ≡ start + 0 * stride = omega arith in
    ap (λ a. some (reading (get_or ws a 0))) here
strided_at ws start stride (suc count) (suc i) h =
    let there : start + stride + i * stride ≡ start + suc i * stride = omega arith in
    strided_at ws (start + stride) stride count i (omega arith) ∙ ap (λ a. some (reading (get_or ws a 0))) there

pub strided-past : (ws : List ℕ) (start stride count i : ℕ) → count ≤ i → get_elem? (strided ws start stride count) i ≡ none
strided-past ws start stride zero i h = refl
strided-past ws start stride (suc count) zero h = absurd (omega arith)
strided-past ws start stride (suc count) (suc i) h = strided-past ws (start + stride) stride count i (omega arith)

-- the j-th of the readings in these words
read_at : (ws : List ℕ) (j : ℕ) → j < length ws → get_elem? (map reading ws) j ≡ some (reading (get_or ws j 0))
read_at [] j h = absurd (omega arith)
read_at (w ∷ ws) zero h = refl
read_at (w ∷ ws) (suc j) h = read_at ws j (omega arith)

read_past : (ws : List ℕ) (j : ℕ) → length ws ≤ j → get_elem? (map reading ws) j ≡ none
read_past [] j h = refl
read_past (w ∷ ws) zero h = absurd (omega arith)
read_past (w ∷ ws) (suc j) h = read_past ws j (omega arith)

-- two lists that agree at each place
same-list : (l m : List ℕ) → ((i : ℕ) → get_elem? l i ≡ get_elem? m i) → l ≡ m
same-list [] [] h = refl
same-list [] (y ∷ m) h = absurd (some-ne-none _ (sym (h 0)))
same-list (x ∷ l) [] h = absurd (some-ne-none _ (h 0))
same-list (x ∷ l) (y ∷ m) h = ap₂ (λ a rest. a ∷ rest) (some_same (h 0)) (same-list l m (λ i. h (suc i)))
  where
    some_same : {a b : ℕ} → some a ≡ some b → a ≡ b
    some_same {a} e = ap (value a) e
      where
        value : ℕ → Option ℕ → ℕ
        value d none = d
        value d (some z) = z

-- of `count` readings every n-th, rounded up
pub strided_every : (ws : List ℕ) (start n count : ℕ) → 0 < n → count ≤ length (drop start ws) →
    strided ws start n (div_ceil count n) ≡ every_nth n (map reading (take count (drop start ws)))
strided_every ws start n count h there = same-list _ _ (λ i. go i (dec_lt i most))
  where
    most : ℕ
    most = div_ceil count n

    these : List ℕ
    these = take count (drop start ws)

    long : length these ≡ count
    long = length-take-le count (drop start ws) there

    go : (i : ℕ) → Dec (i < most) → get_elem? (strided ws start n most) i ≡ get_elem? (every_nth n (map reading these)) i
    go i (yes l) =
        let inside : i * n < count = omega (arith, mul-le-mul_right n l, (div_ceil_times count n h).1) in
        strided_at ws start n most i l ∙
        sym (every_nth_lem n (map reading these) i h ∙ read_at these (i * n) (omega (arith, long)) ∙
        ap (λ w. some (reading w)) (get_or-take count (drop start ws) (i * n) 0 inside ∙ get_or-drop start ws (i * n) 0))
    go i (no l) =
        let over : count ≤ i * n = omega (arith, mul-le-mul_right n (at_least i l), (div_ceil_times count n h).0) in
        strided-past ws start n most i (at_least i l) ∙ sym (every_nth_lem n (map reading these) i h ∙ read_past these (i * n) (omega (arith, long)))
      where
        at_least : (i : ℕ) → (i < most → ⊥) → most ≤ i
        at_least i d = omega arith
