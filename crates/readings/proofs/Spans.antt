-- Where the readings of a knot stand: the loop of `span_of`, knot by knot.
use mathlib.Core.List.{List, [], ◌∷◌, map}
use mathlib.Core.Option.{Option, none, some}
use mathlib.Core.Path.{◌≡◌, refl, sym, ◌∙◌, ap, ap₂, subst, subst₂}
use Prim.Native.Nat.{ℕ, suc, ◌+◌, ◌-◌, ◌*◌, ◌/◌, ◌^◌, ◌≤◌, ◌<◌}
use native.Mathlib.Nat.{mod-lt}
use native.Mathlib.Omega.{arith}
use lib.ListN.{length, take, drop, get_or, length-map}
use lib.Seq.{drop-cons, drop-drop}
use Rattle.rounding.specs.Limits.{knots_max, grade_max}
use Rattle.scans.specs.Scan.{Scan}
use Rattle.scans.specs.RefusalTable.{first}
use Rattle.scans.proofs.Causes.{Quiet, silent}
use Rattle.block.specs.Fields.{knot_count, edition, grade, reading}
use Rattle.block.specs.Bytes.{words}
use Rattle.block.specs.Reading.{reading_words, after_readings, reading_causes, scan_from, behind, knots_causes, list_of}
use Rattle.block.specs.View.{readings_from, readings_of}
use Rattle.block.proofs.Reading.{Taken, taken, Accepted}
use Rattle.block.proofs.RoundTrips.{knots-count}
use Rattle.block.proofs.View.{readings-first, knot-there}
use Rattle.block.proofs.Written.{knot_words_max}
use Rattle.readings.specs.Machine.{Spans, Stands, words_behind}
use Rattle.readings.specs.declared.finding.Span.{Span}

-- j knots are passed, in a block of n knots, and the word of the next, knot j, is i: no fault is ahead, and the readings looked for are those from here
pub record Come (e : ℕ) (ws : List ℕ) (n k j i : ℕ) : Type 0 where
  pub within : j ≤ k
  pub place : i ≤ knot_words_max * j + 1
  pub last : Option Scan
  pub quiet : Quiet (knots_causes e (length ws - 1) j (n - j) last (drop i ws))
  pub readings : get_or (readings_from e n (drop 1 ws)) k [] ≡ get_or (readings_from e (n - j) (drop i ws)) (k - j) []

module _ {e : ℕ} {ws : List ℕ} {n k j i : ℕ} (come : Come e ws n k j i) (h : k < n) where
  -- the word of the knot, the knots after it, and the words after its coefficients
  abbrev w : ℕ
  w = get_or ws i 0

  abbrev more : ℕ
  more = n - (j + 1)

  abbrev rest : List ℕ
  rest = drop (i + grade w + 2) ws

  one_left : n - j ≡ suc more
  one_left = omega (arith, come.within)

  ahead : Quiet (knots_causes e (length ws - 1) j (suc more) come.last (drop i ws))
  ahead = subst (λ a. Quiet (knots_causes e (length ws - 1) j a come.last (drop i ws))) one_left come.quiet

  here : drop i ws ≡ w ∷ drop (suc i) ws
  here = drop-cons ws i 0 (knot-there e (length ws - 1) j more come.last ws i ahead)

  knot : Taken e (length ws - 1) j more come.last w (drop (suc i) ws)
  knot = taken e (length ws - 1) j more come.last w (drop (suc i) ws)
      (subst (λ l. Quiet (knots_causes e (length ws - 1) j (suc more) come.last l)) here ahead)

  behind-it : behind w (drop (suc i) ws) ≡ rest
  behind-it =
      let there : suc i + (grade w + 1) ≡ i + grade w + 2 = omega arith in drop-drop (grade w + 1) (suc i) ws ∙ ap (λ a. drop a ws) there

  readings-here : readings_from e (n - j) (drop i ws) ≡ map reading (reading_words e rest) ∷ readings_from e more (after_readings e rest)
  readings-here =
      ap₂ (λ m l. readings_from e m l) one_left here ∙
      ap (λ l. map reading (reading_words e l) ∷ readings_from e more (after_readings e l)) behind-it

  low : grade w ≤ grade_max
  low = omega (arith, mod-lt (w / 2 ^ 16) {m = 2 ^ 3} (omega arith))

  -- its readings have no fault, and stand near
  pub without_fault : first (reading_causes 0 (words_behind e ws i)) ≡ none
  without_fault = silent (reading_causes 0 (reading_words e rest))
      (subst (λ l. Quiet (reading_causes 0 (reading_words e l))) behind-it knot.readings)

  pub near : n ≤ knots_max → i ≤ knot_words_max * knots_max
  near most = omega (arith, come.place, come.within)

  module _ {p : Span} (stands : Stands p e ws i) where
    past-it : after_readings e rest ≡ drop (p.start + p.count) ws
    past-it =
        ap (λ a. drop a rest) (sym stands.count) ∙ drop-drop p.count (i + grade w + 2) ws ∙ ap (λ a. drop (a + p.count) ws) (sym stands.start)

    -- it is not the one looked for
    pub pass : j < k → Come e ws n k (j + 1) (p.start + p.count)
    pass d =
        let later : k - j ≡ suc (k - (j + 1)) = omega arith in
        let next : suc j ≡ j + 1 = omega arith in
        record {
          within = omega arith;
          place = omega (arith, come.place, low, stands.start, stands.few);
          last = some (scan_from w (drop (suc i) ws));
          quiet = subst₂ (λ a l. Quiet (knots_causes e (length ws - 1) a more (some (scan_from w (drop (suc i) ws))) l)) next
              (ap (after_readings e) behind-it ∙ past-it) knot.later;
          readings = come.readings ∙ ap₂ (λ l a. get_or l a []) readings-here later ∙ ap (λ l. get_or (readings_from e more l) (k - (j + 1)) []) past-it;
        }

    -- it is
    pub found : j ≡ k → Spans p ws (get_or (readings_from e n (drop 1 ws)) k [])
    found d =
        let first_one : k - j ≡ 0 = omega arith in
        let these : get_or (readings_from e n (drop 1 ws)) k [] ≡ map reading (reading_words e rest) =
        come.readings ∙ ap₂ (λ l a. get_or l a []) readings-here first_one in
        record {
          few = stands.few;
          are = ap₂ (λ c a. map reading (take c (drop a ws))) stands.count stands.start ∙ ap (map reading) (readings-first e rest) ∙ sym these;
          count = ap length these ∙ length-map (reading_words e rest) reading ∙ sym stands.count;
        }

-- the block is accepted, and has a knot k
pub record Whole (bs : List ℕ) (k : ℕ) : Type 0 where
  pub there : k < knot_count (get_or (words bs) 0 0)
  pub most : knot_count (get_or (words bs) 0 0) ≤ knots_max
  pub quiet : let w = get_or (words bs) 0 0 in Quiet (knots_causes (edition w) (length (words bs) - 1) 0 (knot_count w) none (drop 1 (words bs)))
  pub readings : let w = get_or (words bs) 0 0 in readings_of bs k ≡ get_or (readings_from (edition w) (knot_count w) (drop 1 (words bs))) k []

pub the_block : (bs : List ℕ) (k : ℕ) → Accepted bs → k < length (list_of bs) → Whole bs k
unfolding list_of readings_of
the_block bs k a h =
    let count : length (list_of bs) ≡ knot_count a.head =
    rw a.words_are (knots-count (edition a.head) (length a.others) 0 (knot_count a.head) none a.others a.knots) in
    let before : length a.others ≡ length (a.head ∷ a.others) - 1 = omega arith in
    record {
      there = rw a.words_are (omega (arith, count));
      most = rw a.words_are a.header.count;
      quiet = rw a.words_are (subst (λ b. Quiet (knots_causes (edition a.head) b 0 (knot_count a.head) none a.others)) before a.knots);
      readings = rw a.words_are refl;
    }

pub nothing_yet : (e : ℕ) (ws : List ℕ) (n k : ℕ) → Quiet (knots_causes e (length ws - 1) 0 n none (drop 1 ws)) → Come e ws n k 0 1
nothing_yet e ws n k q =
    let all : n ≡ n - 0 = omega arith in
    let same : k ≡ k - 0 = omega arith in
    record {
      within = omega arith;
      place = omega arith;
      last = none;
      quiet = subst (λ m. Quiet (knots_causes e (length ws - 1) 0 m none (drop 1 ws))) all q;
      readings = ap₂ (λ m a. get_or (readings_from e m (drop 1 ws)) a []) all same;
    }
