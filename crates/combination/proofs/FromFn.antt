-- An array that `from_fn` makes, where each call gives what a function of the index gives.
use mathlib.Core.List.{List}
use mathlib.Core.Path.{◌≡◌, ◌∙◌, subst}
use Prim.Native.Nat.{ℕ, zero, suc, ◌+◌, ◌<◌}
use native.Mathlib.Omega.{arith}
use lib.ListN.{get_or}
use denote.Param.Members.{Mut}
use Rattle.std.specs.Array.{IsFromFnResult, IsFromFnResultFrom}
use Rattle.std.specs.Iterator.{ActsAs}

module _ {F B : Type 0} (g : Mut F (ℕ × Unit {0}) B) (f : F) (h : ℕ → B) (acts : ActsAs g f h) (ys : List B) where
  each-from : (i n : ℕ) (d : B) → IsFromFnResultFrom g f ys i n → (j : ℕ) → j < n → get_or ys (i + j) d ≡ h (i + j)
  each-from i zero d made j b = absurd (omega arith)
  each-from i (suc n) d (q, y, element, call, rest) zero b =
      let here : i + 0 ≡ i = omega arith in
      rw here (element.1 d ∙ (acts i y q call).1)
  each-from i (suc n) d (q, y, element, call, rest) (suc j) b =
      let next : i + suc j ≡ (i + 1) + j = omega arith in
      rw next (each-from (i + 1) n d (subst (λ p. IsFromFnResultFrom g p ys (i + 1) n) (acts i y q call).0 rest) j (omega arith))

  pub from_fn-each : (n : ℕ) → IsFromFnResult g f ys n → (k : ℕ) (d : B) → k < n → get_or ys k d ≡ h k
  from_fn-each n made k d b = let here : 0 + k ≡ k = omega arith in rw here at (each-from 0 n d made.each k b)
