-- Each of the eight places is the sum's coefficient.
use mathlib.Core.List.{List, map}
use mathlib.Core.Path.{◌≡◌, sym, ◌∙◌, ap}
use Prim.Native.Nat.{ℕ, ◌<◌}
use native.Mathlib.Omega.{arith}
use lib.IntN.{ℤ, pos, ◌+ℤ◌, ◌*ℤ◌}
use lib.ListN.{length, get_or, length-map, get_or-map}
use Rattle.std.proofs.Common.{rules}
use Rattle.std.proofs.lemmas.List.{ext_get_or}
use Rattle.hermite.specs.Polynomial.{◌⊕◌, ◌⊙◌}
use Rattle.rounding.proofs.Combination.{combined-length, combined-coefficient}
use Rattle.combination.specs.Machine.{limited}
use Rattle.combination.proofs.FromFn.{from_fn-each}
use Rattle.combination.proofs.coefficients.combined_list.Goals as goal

module _ (α β : ℤ) (a b : List ℤ) where
  abbrev sum : List ℤ
  sum = α ⊙ a ⊕ β ⊙ b

  -- the coefficient at place j
  abbrev formed : ℕ → ℤ
  formed j = limited (α *ℤ get_or a j (pos 0) +ℤ β *ℤ get_or b j (pos 0))

  all-places : (c : List ℤ) → length a ≡ 8 → length b ≡ 8 → length c ≡ 8 → ((j : ℕ) (d : ℤ) → j < 8 → get_or c j d ≡ formed j) → c ≡ map limited sum
  all-places c ea eb ec each =
      ext_get_or (pos 0) c (map limited sum) (omega (arith, length-map sum limited, combined-length α β a b))
      (λ j h. each j (pos 0) (omega arith) ∙ ap limited (sym (combined-coefficient α β a b j)) ∙
      sym (get_or-map limited sum j (pos 0)))

pub returns : goal.returns
returns c =
    let made = c.from_fn.ensures.items in
    all-places c.args.alpha c.args.beta c.args.a.now c.args.b.now _ c.told-a c.told-b made.long
    (from_fn-each _ _ (formed c.args.alpha c.args.beta c.args.a.now c.args.b.now) (λ j x f k. (search rules, search rules)) _ _ made)
