-- Laws of `sets` and `Put`: one text behind another, and where a text ends.
use mathlib.Core.List.{List, [], ◌∷◌, ◌++◌}
use mathlib.Core.Path.{◌≡◌, refl, ◌∙◌}
use Prim.Native.Nat.{ℕ, ◌+◌, ◌*◌, ◌≤◌}
use native.Mathlib.Omega.{arith}
use lib.ListN.{length, set, length-append}
use Rattle.integer.proofs.Stores.{sets_sets}
use Rattle.text.specs.Text.{Put, hex_text}

-- a store is a text of one byte
pub put_one : (l : List ℕ) (i b : ℕ) → Put l i (b ∷ []) (i + 1) (set l i b)
put_one l i b = record { next = refl; holds = refl }

-- a text written behind a text is one text
pub put-put : {l l' l'' xs ys : List ℕ} {i j k : ℕ} → Put l i xs j l' → Put l' j ys k l'' → Put l i (xs ++ ys) k l''
put-put {l} {l'} {l''} {xs} {ys} {i} {j} {k} p q =
    record { next = rw length-append (omega (arith, p.next, q.next)); holds = q.holds ∙ rw (p.next, p.holds) (sets_sets l i xs ys) }

pub put-within : {l l' text : List ℕ} {i j m : ℕ} → Put l i text j l' → length text ≤ m → j ≤ i + m
put-within p h = omega (arith, p.next)

pub hex_length : (bs : List ℕ) → length (hex_text bs) ≡ 2 * length bs
hex_length [] = refl
hex_length (b ∷ bs) = omega (arith, hex_length bs)
