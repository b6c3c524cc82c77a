-- The first field of a line ends at its first space; a line with no space is one field; and there is always one.
use Rattle.std.proofs.Common.{◌≡◌, ◌↔◌, ℕ, eqb, List, [], ◌∷◌, Bool, true, false, not, Option, Some, None, IsTrue, length, lit<, ap, arith}
use Rattle.std.specs.Borrow.{Bor}
use Rattle.std.specs.Option.{is_some}
use Rattle.std.proofs.lemmas.List.Splits.{slice_split_first, slice_split_none, length-slice_split}
use Rattle.std.proofs.lemmas.List.Sums.{fails_before_first}
use Rattle.std.proofs.lemmas.Str.Pattern.{IsSplitOnceResult, split_once_first}
use Rattle.fields.specs.Split.{split, split_rest}

pub at_space : (bs : List ℕ) (x : Bor (List ℕ) × Bor (List ℕ)) → IsSplitOnceResult 32 bs (Some x) → split bs ≡ x.0.now ∷ split x.1.now
at_space bs x h = let m = split_once_first 32 bs (Some x) h (lit< tt) in rw (m.1, m.2) (slice_split_first (λ b. eqb b 32) bs 0 m.0)

pub no_space : (bs : List ℕ) → IsSplitOnceResult 32 bs None → split bs ≡ bs ∷ []
no_space bs h =
    let m = split_once_first 32 bs None h (lit< tt) in
    slice_split_none (λ b. eqb b 32) bs (λ k d l. fails_before_first (λ b. eqb b 32) bs k d (omega (arith, m)))

some_field : (bs : List ℕ) → split bs ≡ [] → ⊥
some_field bs e = omega (arith, length-slice_split (λ b. eqb b 32) bs, ap length e)

pub none_left : (o : Option (Bor (List ℕ))) (b : Bool) → is_some o ≡ not b → IsTrue b ↔ split_rest o ≡ []
none_left (Some rest) true e = cc
none_left (Some rest) false e = (λ h. cc, λ h. absurd (some_field rest.now h))
none_left None true e = (λ h. cc, λ h. cc)
none_left None false e = cc
