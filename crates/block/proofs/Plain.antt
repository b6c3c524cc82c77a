-- The words of scans that stand in a block of edition 1, where no knot has readings: no fault, the same scans, 32 bits, and at most 9 words a knot.
use borrow.Author.Tests.{eq-eqb}
use mathlib.Core.Bool.{not}
use mathlib.Core.List.{List, [], ◌∷◌, ◌++◌, map, append_assoc}
use mathlib.Core.Option.{Option, some}
use mathlib.Core.Path.{◌≡◌, refl, sym, ◌∙◌, ap, ap₂, subst, subst₂}
use Prim.Native.Nat.{ℕ, suc, ◌*◌, ◌^◌, ◌≤◌, ◌<◌}
use native.Mathlib.Omega.{arith}
use lib.ListN.{length}
use Rattle.integer.proofs.Tests.{both}
use Rattle.scans.specs.Scan.{Scan}
use Rattle.scans.specs.SizeRule.{append_products, first_too_large}
use Rattle.scans.specs.RefusalTable.{position_causes}
use Rattle.scans.proofs.Causes.{Quiet}
use Rattle.block.specs.Fields.{kind, knot_spare, coefficient_word, words_before, end_word}
use Rattle.block.specs.Bytes.{Below}
use Rattle.block.specs.Block.{plain_edition, knots_words}
use Rattle.block.specs.Reading.{coefficient_causes, knots_causes, knots_from}
use Rattle.block.proofs.Fields.{knot_spare_lem, end-kind, end_before}
use Rattle.block.proofs.Reading.{untaken}
use Rattle.block.proofs.Chain.{Fit, Chain}
use Rattle.block.proofs.ReadBack.{knot_of, others, near, low, kind-back, position-back, length_back, scan-back, after-back}
use Rattle.block.proofs.ReadBack.{coefficients-quiet, carried_knots-below}
use Rattle.block.proofs.Written.{plain_knots, carried_knots-length}
use Rattle.block.proofs.RoundTrips.{none_beside}

knot-quiet : {k : ℕ} {last : Option Scan} (s : Scan) (f : Fit k last s) (ws : List ℕ) (b n : ℕ) →
    Quiet (knots_causes plain_edition b (suc k) n (some s) ws) → Quiet (knots_causes plain_edition b k (suc n) last (knot_of s ∷ others s ws))
knot-quiet {k} {last} s f ws b n q =
    untaken plain_edition b k n last (knot_of s) (others s ws)
    (both (eq-eqb (kind (knot_of s)) 1 (kind-back s f)) (eq-eqb (knot_spare (knot_of s)) 0 (knot_spare_lem s.position _ (near s f) (low s f))))
    (subst (λ x. Quiet (position_causes last x)) (sym (position-back s f)) f.placed)
    (subst (λ x. Quiet (coefficient_causes x (others s ws))) (sym (length_back s f)) (coefficients-quiet s.coefficients ws))
    (ap (λ t. first_too_large (append_products k last t)) (scan-back s f ws) ∙ f.size)
    (subst₂ (λ x us. Quiet (knots_causes plain_edition b (suc k) n (some x) us)) (sym (scan-back s f ws)) (sym (after-back s f ws)) q)

pub knots-quiet : (b : ℕ) → b < 2 ^ 30 → (k : ℕ) (last : Option Scan) (scans : List Scan) → Chain k last scans →
    Quiet (knots_causes plain_edition b k (length scans) last (knots_words scans ++ end_word b ∷ []))
knots-quiet b h k last [] c = (ap not (both (eq-eqb (kind (end_word b)) 3 (end-kind b h)) (eq-eqb (words_before (end_word b)) b (end_before b h))), tt)
knots-quiet b h k last (s ∷ scans) c =
    subst (λ ws. Quiet (knots_causes plain_edition b k (suc (length scans)) last (knot_of s ∷ ws)))
    (sym (append_assoc (map coefficient_word s.coefficients) (knots_words scans) (end_word b ∷ [])))
    (knot-quiet s c.0 (knots_words scans ++ end_word b ∷ []) b (length scans) (knots-quiet b h (suc k) (some s) scans c.1))

pub knots-back : (k : ℕ) (last : Option Scan) (scans : List Scan) (ws : List ℕ) → Chain k last scans →
    knots_from plain_edition (length scans) (knots_words scans ++ ws) ≡ scans
knots-back k last [] ws c = refl
knots-back k last (s ∷ scans) ws c =
    let us : List ℕ = knots_words scans ++ ws in
    ap (λ vs. knots_from plain_edition (suc (length scans)) (knot_of s ∷ vs)) (append_assoc (map coefficient_word s.coefficients) (knots_words scans) ws) ∙
    ap₂ (λ t ts. t ∷ ts) (scan-back s c.0 us)
    (ap (knots_from plain_edition (length scans)) (after-back s c.0 us) ∙ knots-back (suc k) (some s) scans ws c.1)

pub knots-below : (k : ℕ) (last : Option Scan) (scans : List Scan) → Chain k last scans → Below (2 ^ 32) (knots_words scans)
knots-below k last scans c =
    subst (Below (2 ^ 32)) (plain_knots scans (λ i. []) (λ i. refl)) (carried_knots-below plain_edition k last scans (λ i. []) c (none_beside scans))

pub knots-length : (k : ℕ) (last : Option Scan) (scans : List Scan) → Chain k last scans → length (knots_words scans) ≤ 9 * length scans
knots-length k last scans c =
    omega (arith, ap length (plain_knots scans (λ i. []) (λ i. refl)), carried_knots-length 0 k last scans (λ i. []) c (λ i l. omega arith))
