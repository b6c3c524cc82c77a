-- The words of the knots are counted by their grades.
use Rattle.std.proofs.Common.{◌≡◌, ◌+◌, ◌*◌, ◌≤◌, List, [], ◌∷◌, ℕ, length, get_or, arith, rules, refl}
use borrow.Author.Tests.{tests}
use Rattle.std.specs.List.{sum_by}
use Rattle.std.proofs.lemmas.Iterator.{YieldsList-from_slice, YieldsList-from_map}
use Rattle.std.proofs.lemmas.Iterator.Consumers.{sum_by_from_yields_List}
use Rattle.std.proofs.lemmas.List.Sums.{sum_by-cons, sum_by-le}
use Rattle.knot.specs.Machine.{scan, scans}
use Rattle.knot.specs.declared.held.Knot.{Knot}
use Rattle.block.specs.Block.{knots_words, scan_words}
use Rattle.block.proofs.Written.{block_words_lem}
use Rattle.std.proofs.lemmas.List.{length-append}
use Rattle.block_writer.proofs.Stored.{scan-words}
use Rattle.block_writer.proofs.writer.length.Goals as goal

abbrev words_of : Knot → ℕ
words_of k = k.grade + 2

counted : (knots : List Knot) → sum_by words_of knots ≡ length (knots_words (scans knots))
counted [] = refl
counted (k ∷ knots) =
    omega (arith, sum_by-cons words_of k knots, counted knots, length-append (scan_words (scan k)) (knots_words (scans knots)), scan-words k)

few : (knots : List Knot) → sum_by words_of knots ≤ length knots * 9
few knots = sum_by-le words_of 9 knots (λ i d h. omega (arith, (get_or knots i d).graded))

words : (c : goal.After-sum-words) → c.sum-words.result ≡ sum_by words_of c.args.knots.now
words c =
    sum_by_from_yields_List words_of c.args.knots.now c.map.result c.sum-words.result c.sum-words.ensures.ran
    (YieldsList-from_map _ words_of (YieldsList-from_slice c.args.knots.now (cc)) c.map.ensures.closure (λ x r q k. search (rules, tests)))

pub overflow_add-result : goal.overflow_add-result
overflow_add-result c = record { fits = omega (arith, words c, few c.args.knots.now) }

pub overflow_mul-result : goal.overflow_mul-result
overflow_mul-result c = record { fits = omega (arith, words c, few c.args.knots.now) }

pub returns : goal.returns
returns c = omega (arith, words c, counted c.args.knots.now, block_words_lem (scans c.args.knots.now))
