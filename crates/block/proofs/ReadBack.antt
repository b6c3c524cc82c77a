-- The words of scans that stand, with readings beside each, read back: no fault, the same scans and readings, and every word of 32 bits.
use borrow.Author.Tests.{eq-eqb}
use mathlib.Core.Bool.{not}
use mathlib.Core.List.{List, [], ◌∷◌, ◌++◌, map, append_assoc}
use mathlib.Core.Option.{Option, some}
use mathlib.Core.Path.{◌≡◌, refl, sym, ◌∙◌, ap, ap₂, subst, subst₂}
use Prim.Native.Nat.{ℕ, zero, suc, ◌+◌, ◌-◌, ◌^◌, ◌≤◌, ◌<◌}
use native.Mathlib.Omega.{arith}
use lib.IntN.{ℤ, pos}
use lib.ListN.{length, get_or, length-map}
use lib.Seq.{take_at, drop_at}
use Rattle.integer.specs.Within.{Within}
use Rattle.integer.proofs.Tests.{both}
use Rattle.rounding.specs.Limits.{size_max}
use Rattle.scans.specs.Scan.{Scan, scan_of, grade as grade_of_scan}
use Rattle.scans.specs.SizeRule.{append_products, first_too_large}
use Rattle.scans.specs.RefusalTable.{position_causes}
use Rattle.scans.proofs.Causes.{Quiet, quiet-both}
use Rattle.block.specs.Fields.{kind, position, grade, knot_spare, knot_word, payload, coefficient_word, words_before, end_word, reading, reading_word}
use Rattle.block.specs.Bytes.{Below}
use Rattle.block.specs.Block.{scan_words}
use Rattle.block.specs.Reading.{reading_words, after_readings, coefficient_causes, reading_causes, scan_from, behind, knots_causes, knots_from}
use Rattle.block.specs.View.{readings_from}
use Rattle.block.specs.Carried.{carried_knots}
use Rattle.block.proofs.Fields.{knot-kind, knot-position, knot-grade, knot_spare_lem, twos_below, coefficient-kind, coefficient-payload, end-kind}
use Rattle.block.proofs.Fields.{end_before}
use Rattle.block.proofs.Bytes.{below_both}
use Rattle.block.proofs.Steps.{readings_on}
use Rattle.block.proofs.Reading.{untaken}
use Rattle.block.proofs.ReadingWords.{Over, over-other, over-end, Carries, values-shown, readings-quiet, after-readings, readings-below}
use Rattle.block.proofs.Chain.{Fit, Chain}

-- the coefficient words
payloads_again : (C : List ℤ) → ((j : ℕ) → j < length C → Within size_max (get_or C j (pos 0))) → map payload (map coefficient_word C) ≡ C
payloads_again [] h = refl
payloads_again (c ∷ C) h = ap₂ (λ x xs. x ∷ xs) (coefficient-payload c (h 0 (omega arith))) (payloads_again C (λ j l. h (suc j) (omega arith)))

pub coefficients-quiet : (C : List ℤ) (ws : List ℕ) → Quiet (coefficient_causes (length C) (map coefficient_word C ++ ws))
coefficients-quiet [] ws = tt
coefficients-quiet (c ∷ C) ws = (ap not (eq-eqb (kind (coefficient_word c)) 2 (coefficient-kind c)), coefficients-quiet C ws)

one_more : (g n : ℕ) → g ≡ n - 1 → 1 ≤ n → g + 1 ≡ n
one_more g n e h = omega arith

-- a scan's knot word, and the words after it
abbrev pub knot_of : Scan → ℕ
knot_of s = knot_word s.position (grade_of_scan s)

abbrev pub others : Scan → List ℕ → List ℕ
others s ws = map coefficient_word s.coefficients ++ ws

module _ {k : ℕ} {last : Option Scan} (s : Scan) (f : Fit k last s) where
  pub near : s.position < 2 ^ 16
  near = omega (arith, f.position)

  pub low : grade_of_scan s < 2 ^ 3
  low = omega (arith, f.listed.at_most)

  pub kind-back : kind (knot_of s) ≡ 1
  kind-back = knot-kind s.position (grade_of_scan s) near low

  pub position-back : position (knot_of s) ≡ s.position
  position-back = knot-position s.position (grade_of_scan s) near

  pub length_back : grade (knot_of s) + 1 ≡ length s.coefficients
  length_back = one_more (grade (knot_of s)) (length s.coefficients) (knot-grade s.position (grade_of_scan s) near low) f.listed.at_least

  words_back : length (map coefficient_word s.coefficients) ≡ grade (knot_of s) + 1
  words_back = length-map s.coefficients coefficient_word ∙ sym length_back

  pub scan-back : (ws : List ℕ) → scan_from (knot_of s) (others s ws) ≡ s
  scan-back ws =
      ap₂ scan_of position-back
      (ap (map payload) (take_at (map coefficient_word s.coefficients) ws (grade (knot_of s) + 1) words_back) ∙
      payloads_again s.coefficients f.coefficients)

  pub after-back : (ws : List ℕ) → behind (knot_of s) (others s ws) ≡ ws
  after-back ws = drop_at (map coefficient_word s.coefficients) ws (grade (knot_of s) + 1) words_back

  -- a knot word is no reading of the knot before
  knot-over : (ws : List ℕ) → Over (knot_of s ∷ ws)
  knot-over ws = over-other (knot_of s) ws (λ h. let e = kind-back in absurd (omega arith))

  -- the knot has the readings xs, and ws are the words after them
  module _ {e : ℕ} (xs : List ℕ) (c : Carries e xs) (ws : List ℕ) (over : Over ws) where
    abbrev later : List ℕ
    later = map reading_word xs ++ ws

    knot-quiet : (b n : ℕ) → Quiet (knots_causes e b (suc k) n (some s) ws) → Quiet (knots_causes e b k (suc n) last (knot_of s ∷ others s later))
    knot-quiet b n q =
        untaken e b k n last (knot_of s) (others s later)
        (both (eq-eqb (kind (knot_of s)) 1 kind-back) (eq-eqb (knot_spare (knot_of s)) 0 (knot_spare_lem s.position (grade_of_scan s) near low)))
        (subst (λ x. Quiet (position_causes last x)) (sym position-back) f.placed)
        (subst (λ x. Quiet (coefficient_causes x (others s later))) (sym length_back) (coefficients-quiet s.coefficients later))
        (ap (λ t. first_too_large (append_products k last t)) (scan-back later) ∙ f.size)
        (subst₂ (λ x us. Quiet (readings_on e b k n x us)) (sym (scan-back later)) (sym (after-back later))
        (quiet-both (reading_causes 0 (reading_words e later)) (knots_causes e b (suc k) n (some s) (after_readings e later)) (readings-quiet xs c ws over)
        (subst (λ us. Quiet (knots_causes e b (suc k) n (some s) us)) (sym (after-readings xs c ws over)) q)))

    next-back : after_readings e (behind (knot_of s) (others s later)) ≡ ws
    next-back = ap (after_readings e) (after-back later) ∙ after-readings xs c ws over

    knot-back : (n : ℕ) → knots_from e (suc n) (knot_of s ∷ others s later) ≡ s ∷ knots_from e n ws
    knot-back n = ap₂ (λ t us. t ∷ knots_from e n us) (scan-back later) next-back

    knot-shown : (n : ℕ) → readings_from e (suc n) (knot_of s ∷ others s later) ≡ xs ∷ readings_from e n ws
    knot-shown n =
        ap₂ (λ ys us. ys ∷ readings_from e n us)
        (ap (λ us. map reading (reading_words e us)) (after-back later) ∙ values-shown xs c ws over) next-back

-- a knot's words, those of its readings, and those after them
apart : (s : Scan) (xs us vs : List ℕ) → scan_words s ++ map reading_word xs ++ us ++ vs ≡ knot_of s ∷ others s (map reading_word xs ++ (us ++ vs))
apart s xs us vs = append_assoc (scan_words s ++ map reading_word xs) us vs ∙ append_assoc (scan_words s) (map reading_word xs) (us ++ vs)

-- ---- scans that stand, with readings beside each, in a block of edition e

abbrev pub Beside : ℕ → List Scan → (ℕ → List ℕ) → Type 0
Beside e scans readings = (i : ℕ) → i < length scans → Carries e (readings i)

knots-over : (k : ℕ) (last : Option Scan) (scans : List Scan) (readings : ℕ → List ℕ) (ws : List ℕ) → Chain k last scans → Over ws →
    Over (carried_knots scans readings ++ ws)
knots-over k last [] readings ws c over = over
knots-over k last (s ∷ scans) readings ws c over =
    knot-over s c.0 (map coefficient_word s.coefficients ++ map reading_word (readings 0) ++ carried_knots scans (λ i. readings (suc i)) ++ ws)

pub carried_knots-quiet : (e b : ℕ) → b < 2 ^ 29 → (k : ℕ) (last : Option Scan) (scans : List Scan) (readings : ℕ → List ℕ) → Chain k last scans →
    Beside e scans readings → Quiet (knots_causes e b k (length scans) last (carried_knots scans readings ++ end_word b ∷ []))
carried_knots-quiet e b h k last [] readings c r =
    (ap not (both (eq-eqb (kind (end_word b)) 3 (end-kind b (omega arith))) (eq-eqb (words_before (end_word b)) b (end_before b (omega arith)))), tt)
carried_knots-quiet e b h k last (s ∷ scans) readings c r =
    let rest : ℕ → List ℕ = λ i. readings (suc i) in
    let us : List ℕ = carried_knots scans rest ++ end_word b ∷ [] in
    subst (λ ws. Quiet (knots_causes e b k (suc (length scans)) last ws)) (sym (apart s (readings 0) (carried_knots scans rest) (end_word b ∷ [])))
    (knot-quiet s c.0 (readings 0) (r 0 (omega arith)) us (knots-over (suc k) (some s) scans rest (end_word b ∷ []) c.1 (over-end b h)) b (length scans)
    (carried_knots-quiet e b h (suc k) (some s) scans rest c.1 (λ i l. r (suc i) (omega arith))))

module _ (e : ℕ) (ws : List ℕ) (over : Over ws) where
  pub carried_knots-back : (k : ℕ) (last : Option Scan) (scans : List Scan) (readings : ℕ → List ℕ) → Chain k last scans → Beside e scans readings →
      knots_from e (length scans) (carried_knots scans readings ++ ws) ≡ scans
  carried_knots-back k last [] readings c r = refl
  carried_knots-back k last (s ∷ scans) readings c r =
      let rest : ℕ → List ℕ = λ i. readings (suc i) in
      ap (knots_from e (suc (length scans))) (apart s (readings 0) (carried_knots scans rest) ws) ∙
      knot-back s c.0 (readings 0) (r 0 (omega arith)) (carried_knots scans rest ++ ws) (knots-over (suc k) (some s) scans rest ws c.1 over)
      (length scans) ∙
      ap (λ ts. s ∷ ts) (carried_knots-back (suc k) (some s) scans rest c.1 (λ i l. r (suc i) (omega arith)))

  first-shown : (k : ℕ) (last : Option Scan) (s : Scan) (scans : List Scan) (readings : ℕ → List ℕ) → Chain k last (s ∷ scans) →
      Beside e (s ∷ scans) readings → readings_from e (suc (length scans)) (carried_knots (s ∷ scans) readings ++ ws) ≡
      readings 0 ∷ readings_from e (length scans) (carried_knots scans (λ i. readings (suc i)) ++ ws)
  first-shown k last s scans readings c r =
      let rest : ℕ → List ℕ = λ i. readings (suc i) in
      ap (readings_from e (suc (length scans))) (apart s (readings 0) (carried_knots scans rest) ws) ∙
      knot-shown s c.0 (readings 0) (r 0 (omega arith)) (carried_knots scans rest ++ ws) (knots-over (suc k) (some s) scans rest ws c.1 over)
      (length scans)

  pub knots-shown : (k : ℕ) (last : Option Scan) (scans : List Scan) (readings : ℕ → List ℕ) → Chain k last scans → Beside e scans readings →
      (i : ℕ) → i < length scans → get_or (readings_from e (length scans) (carried_knots scans readings ++ ws)) i [] ≡ readings i
  knots-shown k last [] readings c r i l = absurd (omega arith)
  knots-shown k last (s ∷ scans) readings c r zero l = ap (λ l. get_or l 0 []) (first-shown k last s scans readings c r)
  knots-shown k last (s ∷ scans) readings c r (suc i) l =
      ap (λ l. get_or l (suc i) []) (first-shown k last s scans readings c r) ∙
      knots-shown (suc k) (some s) scans (λ i. readings (suc i)) c.1 (λ i l. r (suc i) (omega arith)) i (omega arith)

-- every word has 32 bits
coefficients-below : (C : List ℤ) → Below (2 ^ 32) (map coefficient_word C)
coefficients-below [] = tt
coefficients-below (c ∷ C) = (omega (arith, twos_below c), coefficients-below C)

pub carried_knots-below : (e k : ℕ) (last : Option Scan) (scans : List Scan) (readings : ℕ → List ℕ) → Chain k last scans → Beside e scans readings →
    Below (2 ^ 32) (carried_knots scans readings)
carried_knots-below e k last [] readings c r = tt
carried_knots-below e k last (s ∷ scans) readings c r =
    let rest : ℕ → List ℕ = λ i. readings (suc i) in
    below_both (2 ^ 32) (scan_words s ++ map reading_word (readings 0)) (carried_knots scans rest)
    (below_both (2 ^ 32) (scan_words s) (map reading_word (readings 0))
    (omega (arith, c.0.position, c.0.listed.at_most), coefficients-below s.coefficients)
    (readings-below (readings 0) (r 0 (omega arith)).small))
    (carried_knots-below e (suc k) (some s) scans rest c.1 (λ i l. r (suc i) (omega arith)))
