-- How far a sum has come: k knots of it stand, and each follows those before it.
use mathlib.Core.List.{List, [], ◌∷◌, ◌++◌}
use mathlib.Core.Logic.{◌⊎◌, inl, inr}
use mathlib.Core.Option.{Option, none, some}
use mathlib.Core.Path.{◌≡◌, refl, sym, ◌∙◌, ap, ap₂, subst}
use Prim.Native.Nat.{ℕ, zero, suc, ◌+◌, ◌-◌, ◌≤◌, ◌<◌}
use native.Mathlib.Numerals.{add-one}
use native.Mathlib.Omega.{arith}
use lib.IntN.{ℤ}
use lib.ListN.{length, take, drop, get_or, set, length-set, drop_of_length-le}
use lib.Seq.{take-suc, take-length, length-take-le, drop-cons}
use denote.Ref.{Bor}
use Rattle.std.specs.Prelude.{Option as Given, Some, None, Ok, Err}
use Rattle.std.specs.Slice.{IsGetResult}
use Rattle.std.proofs.lemmas.List.{length-drop, get_or-drop, get_or-take, drop_more}
use Rattle.rounding.specs.Limits.{knots_max}
use Rattle.scans.specs.Scan.{Scan, scan_of, grade, at, before}
use Rattle.scans.specs.SizeRule.{Spot, Product, append_products, turn_products, first_too_large}
use Rattle.scans.specs.RefusalTable.{first, bad_size}
use Rattle.scans.specs.Combination.{combined_scan, combination}
use Rattle.scans.proofs.Causes.{Placed}
use Rattle.scans.proofs.SizeRule.{large_found, large_later}
use Rattle.scans.proofs.Reason.{size-reason}
use Rattle.scans.proofs.Lists.{there}
use Rattle.scans.proofs.Combination.{counts, grades, count_is, scan_is, placed_is}
use Rattle.knot.specs.Machine.{scan, scans, spot}
use Rattle.knot.specs.declared.held.Knot.{Knot}
use Rattle.knot.specs.declared.reason.Spot.{Spot as MachineSpot}
use Rattle.knot.specs.declared.reason.Fault.TheVariants as Faults
use Rattle.knot.proofs.Lists.{scan-grade, length-scans, at_scans, scans_stored}
use Rattle.following.specs.Machine.{neighbour, CloseBefore}
use Rattle.combination.specs.Machine.{limited_scan, Summable, Sums}
use Rattle.combination.proofs.Limited.{limited-follows, limited-scan}

-- the first of what is left of a list from place k on
pub record First {X : Type 0} (l : List X) (k : ℕ) (x : X) (rest : List X) : Type 0 where
  pub below : k < length l
  pub is : get_or l k x ≡ x
  pub later : rest ≡ drop (k + 1) l

first_ahead : {X : Type 0} (l : List X) (k : ℕ) (x : X) (rest : List X) → drop k l ≡ x ∷ rest → First l k x rest
first_ahead l k x rest e =
    let below : k < length l = omega (arith, ap length e, length-drop k l) in
    let here : k + 0 ≡ k = omega arith in record {
      below = below;
      is = ap (λ n. get_or l n x) (sym here) ∙ sym (get_or-drop k l 0 x) ∙ ap (λ m. get_or m 0 x) e;
      later = sym (ap (drop 1) e) ∙ ap (drop 1) (drop_more l k x below);
    }

-- the sum of the knots of two lists
abbrev pub sum_of : ℤ → ℤ → List Knot → List Knot → List Scan
sum_of α β given others = combination α β (scans given) (scans others)

-- what is too large of it: each knot in turn
abbrev pub tested : ℤ → ℤ → List Knot → List Knot → List Product
tested α β given others = turn_products 0 none (sum_of α β given others)

pub record Come (α β : ℤ) (given others sums : List Knot) (k : ℕ) : Type 0 where
  pub within : k ≤ length given
  pub room : length sums ≡ knots_max
  pub passed : let C = sum_of α β given others in
      first_too_large (tested α β given others) ≡ first_too_large (turn_products k (before C k) (drop k C))
  pub are : scans (take k sums) ≡ take k (sum_of α β given others)

-- turn k: the knots of it, and what is left of both lists after them
pub record Turn (α β : ℤ) (given others sums : List Knot) (k : ℕ) (mine its : Knot) (ahead its_ahead : List Knot) : Type 0 where
  pub come : Come α β given others sums k
  pub first : First given k mine ahead
  pub other : First others k its its_ahead

module _ (α β : ℤ) (given others : List Knot) where
  abbrev A : List Scan
  A = scans given

  abbrev B : List Scan
  B = scans others

  abbrev C : List Scan
  C = sum_of α β given others

  abbrev at_knot : ℕ → Option Spot
  at_knot k = first_too_large (append_products k (before C k) (at C k))

  pub turn : {sums a b ahead its_ahead : List Knot} {n k : ℕ} {mine its : Knot} → Come α β given others sums n → a ≡ drop n given → b ≡ drop n others →
      (a ≡ mine ∷ ahead) × (b ≡ its ∷ its_ahead) → k ≡ n → Turn α β given others sums k mine its ahead its_ahead
  turn {sums} {a} {b} {ahead} {its_ahead} {n} {k} {mine} {its} come e f next same = record {
    come = subst (Come α β given others sums) (sym same) come;
    first = first_ahead given k mine ahead (ap (λ i. drop i given) same ∙ sym e ∙ next.0);
    other = first_ahead others k its its_ahead (ap (λ i. drop i others) same ∙ sym f ∙ next.1);
  }

  module _ (can : Summable α β given others) where
    length_A : length A ≡ length given
    length_A = length-scans given

    length_others : length others ≡ length given
    length_others = omega (arith, length-scans others, counts A B can.aligned, length_A)

    length_C : length C ≡ length given
    length_C = count_is A B can.aligned α β ∙ length_A

    few : length given ≤ knots_max
    few = omega (arith, length_A, can.standing.count)

    -- ---- the last knot of the sum so far

    last_is : (sums : List Knot) (k : ℕ) → Come α β given others sums k → (last : Given (Bor Knot)) →
        IsGetResult (take k sums) 0 (length (take k sums) - 1) last → neighbour last ≡ before C k
    last_is sums zero come None item = refl
    last_is sums zero come (Some x) item = absurd (omega (arith, item.3.0))
    last_is sums (suc j) come None item =
        absurd (omega (arith, item.3, length-take-le (suc j) sums (omega (arith, come.within, come.room, few))))
    last_is sums (suc j) come (Some x) item =
        let long : length (take (suc j) sums) ≡ suc j = length-take-le (suc j) sums (omega (arith, come.within, come.room, few)) in
        let last : length (take (suc j) sums) - 1 ≡ j = omega (arith, long) in
        let held : get_or (take (suc j) sums) j x.now ≡ x.now = sym (rw last at item.1) in
        let same : at (take (suc j) C) j ≡ at C j = get_or-take (suc j) C j _ (omega arith) in
        let scan-held : scan x.now ≡ at C j =
        ap scan (sym held) ∙ sym (at_scans (take (suc j) sums) j x.now (omega (arith, long))) ∙ ap (λ l. at l j) come.are ∙ same in
        ap some scan-held ∙ sym (there C j (omega (arith, come.within, length_C)))

    -- ---- knot k, of each list and of the sum

    module _ {sums ahead its_ahead : List Knot} {k : ℕ} {mine its : Knot} (this : Turn α β given others sums k mine its ahead its_ahead) where
      h : k < length given
      h = this.first.below

      at_mine : at A k ≡ scan mine
      at_mine = at_scans given k mine h ∙ ap scan this.first.is

      at_its : at B k ≡ scan its
      at_its = at_scans others k its this.other.below ∙ ap scan this.other.is

      pub same-grade : mine.grade ≡ its.grade
      same-grade =
          sym (scan-grade mine) ∙ ap grade (sym at_mine) ∙ sym (grades A B can.aligned k (omega (arith, length_A, h))) ∙ ap grade at_its ∙ scan-grade its

      placed : Placed (before C k) (at C k).position
      placed = placed_is A B can.aligned α β can.standing k (omega (arith, length_A, h))

      -- what is left: this knot, then those after it
      here : first_too_large (tested α β given others) ≡
          first_too_large (append_products k (before C k) (at C k) ++ turn_products (suc k) (some (at C k)) (drop (suc k) C))
      here = this.come.passed ∙ ap (λ l. first_too_large (turn_products k (before C k) l)) (drop-cons C k (scan_of 0 []) (omega (arith, length_C, h)))

      module _ (next : Knot) (last : Given (Bor Knot)) (formed : scan next ≡ limited_scan (combined_scan α β (scan mine) (scan its)))
          (item : IsGetResult (take k sums) 0 (length (take k sums) - 1) last) where
        next_is : scan next ≡ limited_scan (at C k)
        next_is =
            formed ∙ ap limited_scan (ap₂ (combined_scan α β) (sym at_mine) (sym at_its) ∙
            sym (scan_is A B can.aligned α β k (omega (arith, length_A, h))))

        -- the last knot lies at most 16 steps before it
        pub close : CloseBefore (neighbour last) next.position
        close = rw (last_is sums k this.come last item, ap (λ s. s.position) next_is) (near (before C k) placed)
          where
            near : (l : Option Scan) → Placed l (at C k).position → CloseBefore l (at C k).position
            near none p = tt
            near (some held) p = p.near held refl

        -- what is found of it is what is found of the sum's scan
        found_is : first_too_large (append_products k (neighbour last) (scan next)) ≡ at_knot k
        found_is =
            ap₂ (λ l s. first_too_large (append_products k l s)) (last_is sums k this.come last item) next_is ∙ limited-follows k (before C k) (at C k) placed

        -- a knot that is too large
        pub fails : (s : MachineSpot) → some (spot s) ≡ first_too_large (append_products k (neighbour last) (scan next)) →
            Sums (Err (Faults.TooLarge s)) (length given) (bad_size (first_too_large (tested α β given others)) ∷ []) C
        fails s found =
            let all : first_too_large (tested α β given others) ≡ some (spot s) =
            here ∙ large_found (append_products k (before C k) (at C k)) (turn_products (suc k) (some (at C k)) (drop (suc k) C)) (sym found_is ∙ sym found) in
            record {
              cause = sym (ap (λ f. first (bad_size f ∷ [])) all);
              reason = sym (size-reason (tested α β given others) ∙ all);
              room = tt;
              are = tt;
            }

        -- one knot more
        pub one_more : none ≡ first_too_large (append_products k (neighbour last) (scan next)) → Come α β given others (set sums k next) (k + 1)
        one_more found = record {
          within = omega (arith, h);
          room = length-set sums k next ∙ this.come.room;
          passed = here ∙ large_later (append_products k (before C k) (at C k)) (turn_products (suc k) (some (at C k)) (drop (suc k) C)) follows ∙
              ap₂ (λ l i. first_too_large (turn_products i l (drop i C))) last-next (sym (add-one k));
          are = scans_stored sums k next (omega (arith, this.come.room, few, h)) ∙ ap₂ (λ l s. l ++ s ∷ []) this.come.are scan-next ∙
              sym (ap (λ n. take n C) (add-one k) ∙ take-suc C k (scan_of 0 []) (omega (arith, length_C, h)));
        }
          where
            follows : at_knot k ≡ none
            follows = sym found_is ∙ sym found

            scan-next : scan next ≡ at C k
            scan-next = next_is ∙ limited-scan k (before C k) (at C k) placed follows

            last-next : some (at C k) ≡ before C (k + 1)
            last-next = sym (there C k (omega (arith, length_C, h))) ∙ ap (before C) (sym (add-one k))

    -- ---- all knots

    no_more : {a b : List Knot} {k : ℕ} → a ≡ drop k given → b ≡ drop k others → (a ≡ []) ⊎ (b ≡ []) → length given ≤ k
    no_more {a} {b} {k} e f (inl n) = omega (arith, ap length (sym e ∙ n), length-drop k given)
    no_more {a} {b} {k} e f (inr n) = omega (arith, ap length (sym f ∙ n), length-drop k others, length_others)

    pub all_stand : {sums a b : List Knot} {k : ℕ} → Come α β given others sums k → a ≡ drop k given → b ≡ drop k others → (a ≡ []) ⊎ (b ≡ []) →
        Sums (Ok sums) (length given) (bad_size (first_too_large (tested α β given others)) ∷ []) C
    all_stand {sums} {a} {b} {k} come e f n =
        let all : k ≡ length given = omega (arith, come.within, no_more e f n) in
        let whole : k ≡ length C = omega (arith, all, length_C) in
        let kept : first_too_large (tested α β given others) ≡ none =
        come.passed ∙ ap (λ l. first_too_large (turn_products k (before C k) l)) (drop_of_length-le C {i = k} (omega (arith, whole))) in record {
          cause = sym (ap (λ f. first (bad_size f ∷ [])) kept);
          reason = sym (size-reason (tested α β given others) ∙ kept);
          room = come.room;
          are = ap (λ n. scans (take n sums)) (sym all) ∙ come.are ∙ ap (λ n. take n C) whole ∙ take-length C;
        }
