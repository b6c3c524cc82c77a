-- Request 1/14: a block of edition 2 read back gives the scans and the readings that it was made of, and every accepted one is made so.
use mathlib.Core.List.{List, [], ◌∷◌, map}
use mathlib.Core.Option.{Option, none, some}
use mathlib.Core.Path.{◌≡◌, refl, sym, ◌∙◌, ap}
use Prim.Native.Nat.{ℕ, zero, suc, ◌^◌, ◌≤◌}
use native.Mathlib.Nat.{mod-lt}
use native.Mathlib.Omega.{arith}
use lib.ListN.{length, get_or, length-map}
use Rattle.rounding.specs.Limits.{readings_max}
use Rattle.scans.specs.Scan.{Scan}
use Rattle.scans.specs.RefusalTable.{first}
use Rattle.scans.proofs.Causes.{Quiet}
use Rattle.block.specs.Fields.{knot_count, edition, reading}
use Rattle.block.specs.Bytes.{bytes, Below}
use Rattle.block.specs.Block.{readings_edition}
use Rattle.block.specs.Reading.{reading_words, after_readings, scan_from, behind, knots_causes, block_causes, list_of}
use Rattle.block.specs.View.{readings_from, readings_of}
use Rattle.block.specs.Carried.{carried_words, carried_block, Carriable, CarriedLaws}
use Rattle.block.proofs.Reading.{taken, Accepted, accepted}
use Rattle.block.proofs.ReadBack.{Beside}
use Rattle.block.proofs.Written.{read-standing, readings-few}
use Rattle.block.proofs.RoundTrips.{accepted-again, carried_accepted, carried_list, carried_shown}

-- ---- the readings of an accepted block: at most 32 for each knot, of 16 bits

record Such (xs : List ℕ) : Type 0 where
  few : length xs ≤ readings_max
  small : Below (2 ^ 16) xs

values-below : (ws : List ℕ) → Below (2 ^ 16) (map reading ws)
values-below [] = tt
values-below (w ∷ ws) = (mod-lt w {m = 2 ^ 16} (omega arith), values-below ws)

none_such : Such []
none_such = record { few = omega arith; small = tt }

readings-such : (e b k n : ℕ) (last : Option Scan) (ws : List ℕ) → Quiet (knots_causes e b k n last ws) → (i : ℕ) → Such (get_or (readings_from e n ws) i [])
readings-such e b k zero last ws q i = none_such
readings-such e b k (suc n) last [] q i = none_such
readings-such e b k (suc n) last (w ∷ ws) q zero =
    let these : List ℕ = reading_words e (behind w ws) in
    record {
      few = omega (arith, length-map these reading, readings-few 0 these (omega arith) (taken e b k n last w ws q).readings);
      small = values-below these;
    }
readings-such e b k (suc n) last (w ∷ ws) q (suc i) =
    readings-such e b (suc k) n (some (scan_from w ws)) (after_readings e (behind w ws)) (taken e b k n last w ws q).later i

such : (bs : List ℕ) → first (block_causes bs) ≡ none → (i : ℕ) → Such (readings_of bs i)
unfolding readings_of
such bs q i =
    let a : Accepted bs = accepted bs q in
    rw a.words_are (readings-such (edition a.head) (length a.others) 0 (knot_count a.head) none a.others a.knots i)

-- ---- the laws

beside : (scans : List Scan) (readings : ℕ → List ℕ) → Carriable scans readings → Beside readings_edition scans readings
beside scans readings c i h = record { here = refl; few = c.few i h; small = c.small i h }

pub carried_laws : CarriedLaws
unfolding carried_block
carried_laws = record {
  accepted = λ scans readings c. carried_accepted readings_edition (omega arith) refl scans readings c.standing (beside scans readings c);
  list = λ scans readings c. carried_list readings_edition (omega arith) refl scans readings c.standing (beside scans readings c);
  shown = λ scans readings c. carried_shown readings_edition (omega arith) refl scans readings c.standing (beside scans readings c);
  such = λ bs q. record { standing = read-standing bs q; few = λ k h. (such bs q k).few; small = λ k h. (such bs q k).small };
  only = λ bs h q second. ap (λ e. bytes (carried_words e (list_of bs) (readings_of bs))) (sym second) ∙ accepted-again bs h q;
}
