-- Request 1/14: two accepted blocks that differ only in readings and end count have the same list.
use borrow.Author.Tests.{eq-eqb, ne_eqb, eqb-true, not-false}
use mathlib.Core.Bool.{Bool, true, false, true≢false}
use mathlib.Core.List.{List, [], ◌∷◌, ◌++◌}
use mathlib.Core.Option.{Option, none, some}
use mathlib.Core.Path.{◌≡◌, refl, sym, ◌∙◌, ap, ap₂}
use Prim.Native.Nat.{ℕ, zero, suc, ◌+◌}
use native.Mathlib.Omega.{arith}
use lib.Dec.{eqb}
use lib.ListN.{length, take, drop, get_or}
use Rattle.integer.proofs.Tests.{both_first}
use Rattle.scans.specs.Scan.{Scan}
use Rattle.scans.specs.RefusalTable.{first}
use Rattle.scans.proofs.Causes.{Quiet}
use Rattle.block.specs.Fields.{kind, knot_count, edition, grade}
use Rattle.block.specs.Bytes.{words}
use Rattle.block.specs.Block.{plain_edition, readings_edition, scan_words, knots_words}
use Rattle.block.specs.Reading.{is_coefficient, is_end, is_reading, leading_readings, after_readings, coefficient_causes, end_causes, scan_from, behind}
use Rattle.block.specs.Reading.{knots_causes, block_causes, knots_from, list_of}
use Rattle.block.specs.View.{without_both, Alike}
use Rattle.block.proofs.Reading.{Taken, taken, Accepted, accepted}
use Rattle.block.proofs.Chain.{chain}
use Rattle.block.proofs.Plain.{knots-back}
use Rattle.block.proofs.Written.{read-standing}
use Rattle.block.proofs.RoundTrips.{scan-again, knots-count}

-- ---- a word that is not of kind 3 is left, and one that is goes

left : (w : ℕ) (ws : List ℕ) → (kind w ≡ 3 → ⊥) → without_both (w ∷ ws) ≡ w ∷ without_both ws
left w ws d = rw (ne_eqb (kind w) 3 d) refl

gone : (w : ℕ) (ws : List ℕ) → kind w ≡ 3 → without_both (w ∷ ws) ≡ without_both ws
gone w ws e = rw (eq-eqb (kind w) 3 e) refl

coefficients-left : (n : ℕ) (ws : List ℕ) → Quiet (coefficient_causes n ws) → without_both ws ≡ take n ws ++ without_both (drop n ws)
coefficients-left zero ws q = refl
coefficients-left (suc n) [] q = refl
coefficients-left (suc n) (w ∷ ws) q =
    let coefficient : kind w ≡ 2 = eqb-true (kind w) 2 (not-false (is_coefficient w) q.0) in
    left w ws (λ e. absurd (omega arith)) ∙ ap (λ us. w ∷ us) (coefficients-left n ws q.1)

leading_gone : (ws : List ℕ) → without_both ws ≡ without_both (drop (length (leading_readings ws)) ws)
leading_gone [] = refl
leading_gone (w ∷ ws) = go (is_reading w) refl (leading_gone ws)
  where
    go : (b : Bool) → is_reading w ≡ b → without_both ws ≡ without_both (drop (length (leading_readings ws)) ws) →
        without_both (w ∷ ws) ≡ without_both (drop (length (leading_readings (w ∷ ws))) (w ∷ ws))
    go true e rest = rw e (gone w ws (eqb-true (kind w) 3 (both_first (eqb (kind w) 3) _ e)) ∙ rest)
    go false e rest = rw e refl

readings-gone : (e : ℕ) (ws : List ℕ) → without_both ws ≡ without_both (after_readings e ws)
readings-gone e ws = go (eqb e readings_edition) refl
  where
    go : (b : Bool) → eqb e readings_edition ≡ b → without_both ws ≡ without_both (after_readings e ws)
    go true h = rw h (leading_gone ws)
    go false h = rw h refl

-- ---- what is left of an accepted block: its header, and the words of its list

knot-left : (e b k n : ℕ) (last : Option Scan) (w : ℕ) (ws : List ℕ) → Taken e b k n last w ws →
    without_both (w ∷ ws) ≡ scan_words (scan_from w ws) ++ without_both (after_readings e (behind w ws))
knot-left e b k n last w ws t =
    let knot : kind w ≡ 1 = t.kind_is in
    left w ws (λ h. absurd (omega arith)) ∙ ap (λ us. w ∷ us) (coefficients-left (grade w + 1) ws t.coefficients) ∙
    ap₂ (λ us vs. us ++ vs) (sym (scan-again w ws t)) (readings-gone e (behind w ws))

end-gone : (b : ℕ) (ws : List ℕ) → Quiet (end_causes b ws) → without_both ws ≡ []
end-gone b [] q = refl
end-gone b (w ∷ []) q = gone w [] (eqb-true (kind w) 3 (both_first (eqb (kind w) 3) _ (not-false (is_end b w) q.0)))
end-gone b (w ∷ v ∷ ws) q = absurd (true≢false q.0)

knots-left : (e b k n : ℕ) (last : Option Scan) (ws : List ℕ) → Quiet (knots_causes e b k n last ws) → without_both ws ≡ knots_words (knots_from e n ws)
knots-left e b k zero last ws q = end-gone b ws q
knots-left e b k (suc n) last [] q = refl
knots-left e b k (suc n) last (w ∷ ws) q =
    let t : Taken e b k n last w ws = taken e b k n last w ws q in
    knot-left e b k n last w ws t ∙
    ap (λ us. scan_words (scan_from w ws) ++ us) (knots-left e b (suc k) n (some (scan_from w ws)) (after_readings e (behind w ws)) t.later)

record Left (bs : List ℕ) : Type 0 where
  head : ℕ
  words_left : without_both (words bs) ≡ head ∷ knots_words (list_of bs)
  count : length (list_of bs) ≡ knot_count head

left_of_lem : (bs : List ℕ) → Accepted bs → Left bs
unfolding list_of
left_of_lem bs a =
    let w : ℕ = a.head in
    let ws : List ℕ = a.others in
    let header : kind w ≡ 0 = a.header.kind_is in
    record {
      head = w;
      words_left = rw a.words_are (left w ws (λ h. absurd (omega arith)) ∙
          ap (λ us. w ∷ us) (knots-left (edition w) (length ws) 0 (knot_count w) none ws a.knots));
      count = rw a.words_are (knots-count (edition w) (length ws) 0 (knot_count w) none ws a.knots);
    }

-- the list of an accepted block, read from the words of its knots alone
list_of_lem : (bs : List ℕ) → first (block_causes bs) ≡ none → knots_from plain_edition (length (list_of bs)) (knots_words (list_of bs) ++ []) ≡ list_of bs
list_of_lem bs h =
    let scans : List Scan = list_of bs in
    knots-back 0 none scans [] (chain scans (read-standing bs h))

-- "two accepted blocks that differ only in readings and end count" are read alike
pub alike-lists : (bs cs : List ℕ) → Alike bs cs → list_of bs ≡ list_of cs
alike-lists bs cs alike =
    let b : Left bs = left_of_lem bs (accepted bs alike.one_accepted) in
    let c : Left cs = left_of_lem cs (accepted cs alike.other_accepted) in
    let same : b.head ∷ knots_words (list_of bs) ≡ c.head ∷ knots_words (list_of cs) = sym b.words_left ∙ alike.equal ∙ c.words_left in
    let count : length (list_of bs) ≡ length (list_of cs) = b.count ∙ ap (λ ws. knot_count (get_or ws 0 0)) same ∙ sym c.count in
    sym (list_of_lem bs alike.one_accepted) ∙ ap₂ (λ n ws. knots_from plain_edition n (ws ++ [])) count (ap (drop 1) same) ∙ list_of_lem cs alike.other_accepted
