-- How far reading has come: between two knots, and between two coefficient words of one. The edition is e throughout.
use mathlib.Core.List.{List, [], ◌∷◌, ◌++◌, map, append-nil}
use mathlib.Core.Option.{Option, none, some}
use mathlib.Core.Path.{◌≡◌, refl, sym, ◌∙◌, ap, ap₂}
use Prim.Native.Nat.{ℕ, zero, suc, ◌+◌, ◌-◌, ◌*◌, ◌≤◌, ◌<◌}
use native.Mathlib.Numerals.{add-one}
use native.Mathlib.Omega.{arith}
use lib.IntN.{ℤ}
use mir.Facts.{to_z-of_z}
use mir.Syntax.{w32}
use mir.Val.{SFits, to_z, of_z}
use lib.ListN.{length, take, drop, get_or, get_elem?, set, length-set, length-drop}
use lib.Seq.{length-take-le, take-suc, take-suc-set, get_or-drop, drop-drop, append_snoc}
use Rattle.rounding.specs.Limits.{knots_max, grade_max, readings_max}
use Rattle.std.specs.Prelude.{Option as Given, Some, None, Ok, Err, option_copied, slice_get}
use Rattle.std.specs.Borrow.{Bor}
use Rattle.scans.specs.Scan.{Scan, scan_of, before}
use Rattle.scans.specs.SizeRule.{Spot, Product, append_products, turn_products, first_too_large}
use Rattle.scans.specs.RefusalTable.{Cause, first, bad_size, size_causes}
use Rattle.scans.specs.Reason.{reason}
use Rattle.knot.specs.Machine.{number, scan, scans, spot}
use Rattle.following.specs.Machine.{neighbour}
use Rattle.knot.specs.declared.held.Knot.{Knot}
use Rattle.knot.specs.declared.reason.Fault.TheVariants as Faults
use Rattle.knot.specs.declared.reason.Spot.{Spot as MachineSpot}
use Rattle.knot.specs.declared.table.Refusal.{Refusal}
use Rattle.scans.proofs.Causes.{first_found, first-later}
use Rattle.scans.proofs.Reason.{Others, no_reason}
use Rattle.scans.proofs.SizeRule.{large_found, large_later}
use Rattle.knot.proofs.Lists.{map-append-one, scans_stored}
use Rattle.block.specs.Fields.{kind, position, grade, payload}
use Rattle.block.specs.Reading.{reading_words, after_readings, knot_causes, coefficient_causes, reading_causes, knots_causes, end_causes, knots_from}
use Rattle.block_reader.specs.Machine.{Reads}
use Rattle.block_reader.specs.declared.contents.Contents.{Contents}
use Rattle.block.proofs.Written.{knot_words_max}
use Rattle.block.proofs.Steps.{readings_on, size_on, after_word, knot-found, knot-passed, knot-listed, coefficient-right, coefficient_wrong, coefficient-there}

-- the first fault of the knots, and their list
abbrev pub fault : ℕ → List ℕ → ℕ → Option ℕ
fault e ws count = first (knots_causes e (length ws - 1) 0 count none (drop 1 ws))

abbrev pub list : ℕ → List ℕ → ℕ → List Scan
list e ws count = knots_from e count (drop 1 ws)

-- and the products that are tested, each knot in turn
abbrev pub tested : ℕ → List ℕ → ℕ → List Product
tested e ws count = turn_products 0 none (list e ws count)

-- the last of the first k knots
abbrev pub last : List Knot → ℕ → Option Scan
last knots k = before (scans knots) k

abbrev scan_in : Given Knot → Option Scan
scan_in None = none
scan_in (Some t) = some (scan t)

scan_got : (knots : List Knot) (j : ℕ) → scan_in (slice_get knots j) ≡ get_elem? (scans knots) j
scan_got [] j = refl
scan_got (t ∷ knots) zero = refl
scan_got (t ∷ knots) (suc j) = scan_got knots j

taken_got : (knots : List Knot) (j : ℕ) → j < length knots → slice_get (take (suc j) knots) j ≡ slice_get knots j
taken_got [] j h = refl
taken_got (t ∷ knots) zero h = refl
taken_got (t ∷ knots) (suc j) h = taken_got knots j (omega arith)

copied : (r : Given (Bor Knot)) → neighbour r ≡ scan_in (option_copied r)
copied None = refl
copied (Some t) = refl

-- what is lent of them is the last
pub neighbour_last : (r : Given (Bor Knot)) (knots : List Knot) (k : ℕ) → k ≤ length knots →
    option_copied r ≡ slice_get (take k knots) (length (take k knots) - 1) → neighbour r ≡ last knots k
neighbour_last r knots zero h e = copied r ∙ ap scan_in e
neighbour_last r knots (suc j) h e =
    let at_j : length (take (suc j) knots) - 1 ≡ j = omega (arith, length-take-le (suc j) knots h) in
    copied r ∙ ap scan_in (e ∙ ap (slice_get (take (suc j) knots)) at_j ∙ taken_got knots j h) ∙ scan_got knots j

-- and one that is stored after them is the last then
got_stored : (knots : List Knot) (k : ℕ) (t : Knot) → k < length knots → get_elem? (scans (set knots k t)) k ≡ some (scan t)
got_stored [] k t h = absurd (omega arith)
got_stored (u ∷ knots) zero t h = refl
got_stored (u ∷ knots) (suc k) t h = got_stored knots k t (omega arith)

last_stored : (knots : List Knot) (k : ℕ) (t : Knot) → k < length knots → last (set knots k t) (k + 1) ≡ some (scan t)
last_stored knots k t h = ap (last (set knots k t)) (add-one k) ∙ got_stored knots k t h

-- k knots are read, and word i is the next: what the definition gives of the whole is what it gives from here
pub record Come (e : ℕ) (ws : List ℕ) (count : ℕ) (knots : List Knot) (k i : ℕ) : Type 0 where
  pub place : i ≤ knot_words_max * k + 1
  pub room : length knots ≡ knots_max
  pub faults : fault e ws count ≡ first (knots_causes e (length ws - 1) k (count - k) (last knots k) (drop i ws))
  pub scans : list e ws count ≡ scans (take k knots) ++ knots_from e (count - k) (drop i ws)
  pub sizes : first_too_large (tested e ws count) ≡ first_too_large (turn_products k (last knots k) (knots_from e (count - k) (drop i ws)))

-- and of the knot at word i, of grade m, j coefficient words
pub record Coefficients (ws : List ℕ) (i m : ℕ) (c : List ℤ) (j : ℕ) : Type 0 where
  pub within : j ≤ m + 1
  pub room : length c ≡ grade_max + 1
  pub faults : first (coefficient_causes (m + 1) (drop (i + 1) ws)) ≡ first (coefficient_causes (m + 1 - j) (drop (i + 1 + j) ws))
  pub values : take j c ≡ map payload (take j (drop (i + 1) ws))

-- ---- the coefficient words

module _ (ws : List ℕ) (i m : ℕ) where
  pub none_yet : (c : List ℤ) → length c ≡ grade_max + 1 → Coefficients ws i m c 0
  none_yet c room =
      let here : i + 1 ≡ i + 1 + 0 = omega arith in
      let all : m + 1 ≡ m + 1 - 0 = omega arith in
      record {
        within = omega arith;
        room = room;
        faults = ap₂ (λ n a. first (coefficient_causes n (drop a ws))) all here;
        values = refl;
      }

  -- one word more, of kind 2
  module _ (c : List ℤ) (j : ℕ) (come : Coefficients ws i m c j) (h : j ≤ m) (e : kind (get_or ws (i + 1 + j) 0) ≡ 2) where
    more-faults : first (coefficient_causes (m + 1 - j) (drop (i + 1 + j) ws)) ≡ first (coefficient_causes (m + 1 - (j + 1)) (drop (i + 1 + (j + 1)) ws))
    more-faults =
        let some_left : m + 1 - j ≡ suc (m - j) = omega arith in
        let less : m - j ≡ m + 1 - (j + 1) = omega arith in
        let next : suc (i + 1 + j) ≡ i + 1 + (j + 1) = omega arith in
        ap (λ n. first (coefficient_causes n (drop (i + 1 + j) ws))) some_left ∙ coefficient-right (m - j) ws (i + 1 + j) e ∙
        ap₂ (λ n a. first (coefficient_causes n (drop a ws))) less next

    more-values : j < length c → take (j + 1) (set c j (payload (get_or ws (i + 1 + j) 0))) ≡ map payload (take (j + 1) (drop (i + 1) ws))
    more-values b =
        let w = get_or ws (i + 1 + j) 0 in
        let rest = drop (i + 1) ws in
        let there : j < length rest = omega (arith, coefficient-there ws (i + 1 + j) e, length-drop (i + 1) ws) in
        rw (add-one j, take-suc-set c j (payload w) b, take-suc rest j 0 there, get_or-drop (i + 1) ws j 0, come.values)
        (sym (map-append-one payload (take j rest) w))

    pub one_more : m ≤ grade_max → Coefficients ws i m (set c j (payload (get_or ws (i + 1 + j) 0))) (j + 1)
    one_more b = record {
      within = omega arith;
      room = length-set c j _ ∙ come.room;
      faults = come.faults ∙ more-faults;
      values = more-values (omega (arith, come.room));
    }

  -- as the word w is loaded, and z is stored
  pub one_stored : (c : List ℤ) (j w : ℕ) (z : ℤ) → Coefficients ws i m c j → j ≤ m → m ≤ grade_max → w ≡ get_or ws (i + 1 + j) 0 → kind w ≡ 2 →
      SFits w32 z → z ≡ payload w → Coefficients ws i m (set c j (to_z w32 (of_z w32 z))) (j + 1)
  one_stored c j w z come h low w_is two fits z_is =
      rw (to_z-of_z fits, z_is, w_is) (one_more c j come h (sym (ap kind w_is) ∙ two) low)

-- ---- the knot of the words from i on, all read: x and m are the fields of its word, c its coefficients

-- what is left to find from its first coefficient word on: its coefficient words, its size, its readings, and the n knots after it
abbrev ahead : ℕ → ℕ → ℕ → ℕ → Option Scan → ℕ → ℕ → List ℕ → Option ℕ
ahead e before k n last x m rest = first (after_word e before k n last x m rest)

-- the word of knot k has a fault
pub word-found : {e : ℕ} {ws : List ℕ} {count : ℕ} {knots : List Knot} {k i n : ℕ} → Come e ws count knots k i → k < count →
    first (knot_causes (last knots k) (get_or ws i 0)) ≡ some n → fault e ws count ≡ some n
word-found {e} {ws} {count} {knots} {k} {i} come due h =
    let one : count - k ≡ suc (count - (k + 1)) = omega arith in
    come.faults ∙ ap (λ n. first (knots_causes e (length ws - 1) k n (last knots k) (drop i ws))) one ∙
    knot-found e (length ws - 1) k (count - (k + 1)) (last knots k) ws i h

-- it has none
pub record AtWord (e : ℕ) (ws : List ℕ) (count : ℕ) (knots : List Knot) (k i x m : ℕ) : Type 0 where
  pub come : Come e ws count knots k i
  pub due : k < count
  pub passed : first (knot_causes (last knots k) (get_or ws i 0)) ≡ none
  pub x_is : x ≡ position (get_or ws i 0)
  pub m_is : m ≡ grade (get_or ws i 0)

module _ {e : ℕ} {ws : List ℕ} {count : ℕ} {knots : List Knot} {k i x m : ℕ} (word : AtWord e ws count knots k i x m) where
  -- the words before the end word, and the knots after this one
  abbrev end : ℕ
  end = length ws - 1

  abbrev more : ℕ
  more = count - (k + 1)

  one_left : count - k ≡ suc more
  one_left = omega (arith, word.due)

  from_word : fault e ws count ≡ ahead e end k more (last knots k) x m (drop (i + 1) ws)
  from_word =
      let to = ahead e end k more (last knots k) in
      word.come.faults ∙ ap (λ n. first (knots_causes e end k n (last knots k) (drop i ws))) one_left ∙
      knot-passed e end k more (last knots k) ws i word.passed ∙
      ap₂ (λ y n. to y n (drop (suc i) ws)) (sym word.x_is) (sym word.m_is) ∙ ap (λ a. to x m (drop a ws)) (sym (add-one i))

  list-from_word : knots_from e (count - k) (drop i ws) ≡ scan_of x (map payload (take (m + 1) (drop (i + 1) ws))) ∷ knots_from e more
      (after_readings e (drop (m + 1) (drop (i + 1) ws)))
  list-from_word =
      let to : ℕ → ℕ → List ℕ → List Scan =
      λ y n rest. scan_of y (map payload (take (n + 1) rest)) ∷ knots_from e more (after_readings e (drop (n + 1) rest)) in
      ap (λ n. knots_from e n (drop i ws)) one_left ∙ knot-listed e more (last knots k) ws i word.passed ∙
      ap₂ (λ y n. to y n (drop (suc i) ws)) (sym word.x_is) (sym word.m_is) ∙ ap (λ a. to x m (drop a ws)) (sym (add-one i))

  -- a word that is no coefficient word
  pub from_wrong : {c : List ℤ} (j : ℕ) → Coefficients ws i m c j → j ≤ m → (kind (get_or ws (i + 1 + j) 0) ≡ 2 → ⊥) → fault e ws count ≡ some 1
  from_wrong j read h wrong =
      let some_left : m + 1 - j ≡ suc (m - j) = omega arith in
      from_word ∙
      first_found (coefficient_causes (m + 1) (drop (i + 1) ws)) (size_on e end k more (last knots k) x m (drop (i + 1) ws))
      (read.faults ∙ ap (λ n. first (coefficient_causes n (drop (i + 1 + j) ws))) some_left ∙ coefficient_wrong (m - j) ws (i + 1 + j) wrong)

  module _ {c : List ℤ} (done : Coefficients ws i m c (m + 1)) where
    -- the knot's scan, and the words after its coefficients
    abbrev s : Scan
    s = scan_of x (take (m + 1) c)

    abbrev rest : List ℕ
    rest = drop (i + m + 2) ws

    scan_is : s ≡ scan_of x (map payload (take (m + 1) (drop (i + 1) ws)))
    scan_is = ap (scan_of x) done.values

    quiet-words : first (coefficient_causes (m + 1) (drop (i + 1) ws)) ≡ none
    quiet-words =
        let all : m + 1 - (m + 1) ≡ 0 = omega arith in
        done.faults ∙ ap (λ n. first (coefficient_causes n (drop (i + 1 + (m + 1)) ws))) all

    after_it : drop (m + 1) (drop (i + 1) ws) ≡ rest
    after_it = let there : i + 1 + (m + 1) ≡ i + m + 2 = omega arith in drop-drop (m + 1) (i + 1) ws ∙ ap (λ a. drop a ws) there

    from-size : fault e ws count ≡ first (size_causes k (last knots k) s ++ readings_on e end k more s rest)
    from-size =
        from_word ∙ first-later (coefficient_causes (m + 1) (drop (i + 1) ws)) (size_on e end k more (last knots k) x m (drop (i + 1) ws)) quiet-words ∙
        ap₂ (λ t l. first (size_causes k (last knots k) t ++ readings_on e end k more t l)) (sym scan_is) after_it

    list-from-size : knots_from e (count - k) (drop i ws) ≡ s ∷ knots_from e more (after_readings e rest)
    list-from-size = list-from_word ∙ ap₂ (λ t l. t ∷ knots_from e more (after_readings e l)) (sym scan_is) after_it

    -- what is tested from here on: this knot, then those after it
    abbrev here : List Product
    here = append_products k (last knots k) s

    abbrev later : List Product
    later = turn_products (suc k) (some s) (knots_from e more (after_readings e rest))

    tested-from-size : first_too_large (tested e ws count) ≡ first_too_large (here ++ later)
    tested-from-size = word.come.sizes ∙ ap (λ l. first_too_large (turn_products k (last knots k) l)) list-from-size

    -- a product is too large
    module _ {spot : Spot} (found : first_too_large here ≡ some spot) where
      pub from-size-found : fault e ws count ≡ some 6
      from-size-found = from-size ∙ first_found (size_causes k (last knots k) s) (readings_on e end k more s rest) (ap (λ f. first (bad_size f ∷ [])) found)

      pub reason-found : first_too_large (tested e ws count) ≡ some spot
      reason-found = tested-from-size ∙ large_found here later found

    module _ (kept : first_too_large here ≡ none) where
      from-readings : fault e ws count ≡ first (readings_on e end k more s rest)
      from-readings = from-size ∙ first-later (size_causes k (last knots k) s) (readings_on e end k more s rest) (ap (λ f. first (bad_size f ∷ [])) kept)

      -- a reading refuses
      pub from-readings-found : {n : ℕ} → first (reading_causes 0 (reading_words e rest)) ≡ some n → fault e ws count ≡ some n
      from-readings-found h =
          from-readings ∙ first_found (reading_causes 0 (reading_words e rest)) (knots_causes e end (suc k) more (some s) (after_readings e rest)) h

      -- there are so many
      module _ (n : ℕ) (n_is : n ≡ length (reading_words e rest)) where
        past-readings : after_readings e rest ≡ drop (i + m + 2 + n) ws
        past-readings = ap (λ a. drop a rest) (sym n_is) ∙ drop-drop n (i + m + 2) ws

        pub taken : (t : Knot) → scan t ≡ s → count ≤ knots_max → m ≤ grade_max → n ≤ readings_max →
            first (reading_causes 0 (reading_words e rest)) ≡ none → Come e ws count (set knots k t) (k + 1) (i + m + 2 + n)
        taken t t_is most g few quiet =
            let room : k < length knots = omega (arith, word.come.room, word.due) in
            let it = last_stored knots k t room ∙ ap some t_is in
            let stored = scans_stored knots k t room ∙ ap (λ u. scans (take k knots) ++ u ∷ []) t_is in
            let rest_of = knots_from e more (drop (i + m + 2 + n) ws) in
            record {
              place = omega (arith, word.come.place);
              room = length-set knots k _ ∙ word.come.room;
              faults = from-readings ∙
                  first-later (reading_causes 0 (reading_words e rest)) (knots_causes e end (suc k) more (some s) (after_readings e rest)) quiet ∙
                  ap₂ (λ j l. first (knots_causes e end j more (some s) l)) (sym (add-one k)) past-readings ∙
                  ap (λ o. first (knots_causes e end (k + 1) more o (drop (i + m + 2 + n) ws))) (sym it);
              scans = word.come.scans ∙ ap (λ l. scans (take k knots) ++ l) list-from-size ∙
                  ap (λ l. scans (take k knots) ++ s ∷ knots_from e more l) past-readings ∙
                  sym (append_snoc (scans (take k knots)) s rest_of) ∙ ap (λ l. l ++ rest_of) (sym stored);
              sizes = tested-from-size ∙ large_later here later kept ∙
                  ap₂ (λ j l. first_too_large (turn_products j (some s) (knots_from e more l))) (sym (add-one k)) past-readings ∙
                  ap (λ o. first_too_large (turn_products (k + 1) o rest_of)) (sym it);
            }

-- ---- all knots are read

module _ {e : ℕ} {ws : List ℕ} {count : ℕ} {knots : List Knot} {k i : ℕ} (come : Come e ws count knots k i) (all : k ≡ count) where
  none_left : count - k ≡ 0
  none_left = omega arith

  pub at_end : fault e ws count ≡ first (end_causes (length ws - 1) (drop i ws))
  at_end = come.faults ∙ ap (λ n. first (knots_causes e (length ws - 1) k n (last knots k) (drop i ws))) none_left

  pub all_listed : scans (take count knots) ≡ list e ws count
  all_listed =
      ap (λ n. scans (take n knots)) (sym all) ∙
      sym (come.scans ∙ ap (λ n. scans (take k knots) ++ knots_from e n (drop i ws)) none_left ∙ append-nil (scans (take k knots)))

-- ---- what is answered: the list, or a fault

pub accepts : {found : Option ℕ} {list : List Scan} (r : Contents) → found ≡ none → scans (take r.count r.knots) ≡ list → Reads (Ok r) found list
accepts {found} {list} r f is = record { found = sym f; reason = sym (ap (λ o. reason o (turn_products 0 none list)) f); knots = is }

-- 6
pub too_large : {found : Option ℕ} {list : List Scan} (named : MachineSpot) → found ≡ some 6 →
    first_too_large (turn_products 0 none list) ≡ some (spot named) → Reads (Err (Faults.TooLarge named)) found list
too_large {found} {list} named f first = record {
  found = sym f;
  reason = sym (ap (λ o. reason o (turn_products 0 none list)) f ∙ first);
  knots = tt;
}

-- another number, found in these causes
pub refuses : {found : Option ℕ} {list : List Scan} (cause : Refusal) (causes : List Cause) → Others causes → some (number cause) ≡ first causes →
    found ≡ some (number cause) → Reads (Err (Faults.Cause cause)) found list
refuses {found} {list} cause causes other here f = record {
  found = sym f;
  reason = sym (ap (λ o. reason o (turn_products 0 none list)) (f ∙ here) ∙ no_reason causes (turn_products 0 none list) other);
  knots = tt;
}
