-- Request 7/14: Same says yes exactly when two lists of scans are one, and so exactly when their blocks are.
use borrow.Author.Tests.{eqb-true, eq-eqb}
use mathlib.Core.Bool.{true, ◌&&◌}
use mathlib.Core.List.{List, [], ◌∷◌}
use mathlib.Core.Path.{◌≡◌, refl, sym, ◌∙◌, ap, ap₂}
use Prim.Native.Nat.{ℕ}
use lib.Dec.{eqb}
use lib.IntN.{ℤ, pos}
use lib.ListN.{get_or}
use Rattle.integer.specs.Tests.{equal}
use Rattle.integer.proofs.Tests.{not_yes, both, both_first, both-second, equal→eq, equal_self, pairs-equal, pairs_itself}
use Rattle.scans.specs.Scan.{Scan, scan_of, grade}
use Rattle.scans.specs.Standing.{Standing}
use Rattle.scans.specs.Combination.{aligned}
use Rattle.block.specs.Block.{block}
use Rattle.block.specs.Reading.{list_of}
use Rattle.block.proofs.RoundTrips.{written-list}
use Rattle.calls.specs.Same.{agree, same, moisture, same_moistures, SameLaws, ToldApart}

agree-equal : (s t : Scan) → agree s t ≡ true → s ≡ t
agree-equal s t e =
    ap₂ scan_of (eqb-true _ _ (both_first (eqb s.position t.position) _ (both_first (aligned s t) _ e)))
    (pairs-equal equal equal→eq _ _ (both-second (aligned s t) _ e))

agree_itself : (s : Scan) → agree s s ≡ true
agree_itself s =
    both (both (eq-eqb s.position s.position refl) (eq-eqb (grade s) (grade s) refl)) (pairs_itself equal equal_self s.coefficients)

same-equal : (A B : List Scan) → same A B ≡ true → A ≡ B
unfolding same
same-equal A B = pairs-equal agree agree-equal A B

same_itself : (A : List Scan) → same A A ≡ true
unfolding same
same_itself A = pairs_itself agree agree_itself A

equal-same : (A B : List Scan) → A ≡ B → same A B ≡ true
equal-same A B e = rw e (same_itself B)

-- the list of a block of scans that stand is those scans
blocks_equal : (A B : List Scan) → Standing A → Standing B → block A ≡ block B → A ≡ B
blocks_equal A B st st' e = sym (written-list A st) ∙ ap list_of e ∙ written-list B st'

moistures_itself : (A : List Scan) → same_moistures A A ≡ true
moistures_itself = pairs_itself _ (λ s. both (eq-eqb s.position s.position refl) (equal_self (moisture s)))

pub same_laws : (A B : List Scan) → SameLaws A B
same_laws A B = record {
  yes_equal = same-equal A B;
  equal_yes = equal-same A B;
  yes_bytes = λ e. ap block (same-equal A B e);
  bytes_yes = λ st st' e. equal-same A B (blocks_equal A B st st' e);
  yes_old = λ e. rw (same-equal A B e) (moistures_itself B);
}

-- the slope is the second coefficient of the first scan
abbrev slope : List Scan → ℤ
slope [] = pos 0
slope (s ∷ scans) = get_or s.coefficients 1 (pos 0)

pub told-apart : (x : ℕ) (b c d e : ℤ) → ToldApart x b c d e
told-apart x b c d e = record {
  old_yes = both (both (eq-eqb x x refl) (equal_self c)) refl;
  new_no = λ unlike. not_yes _ (λ yes. unlike (ap slope (same-equal _ _ yes)));
  old_no = λ unlike. not_yes _ (λ yes. unlike (equal→eq b c (both-second (eqb x x) (equal b c) (both_first (eqb x x && equal b c) true yes))));
}
