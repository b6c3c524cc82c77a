-- The end word is the last word, of kind 3, and counts the words before it.
use Rattle.std.proofs.Common.{List, [], ◌∷◌, ◌≡◌, ℕ, zero, suc, ◌-◌, refl, sym, ◌∙◌, ap, ap₂, arith, drop, get_or, length}
use borrow.Author.Tests.{eq-eqb, ne_eqb}
use Rattle.std.proofs.Math.Option.{none, some}
use Rattle.scans.specs.RefusalTable.{first}
use Rattle.block.specs.Bytes.{words}
use Rattle.block.specs.Fields.{kind, words_before}
use Rattle.block.specs.Reading.{end_causes}
use Rattle.block.proofs.Bytes.{length-words}
use Rattle.word_faults.proofs.faults.end_fault.Goals as goal
use Rattle.word_faults.proofs.faults.end_fault.Goals.{then-count-eq0-via-then-count-eq0, then-count-eq0-via-else-count-eq0+then-k-count}

-- ---- the last word stands in place k, or it does not

not_last : (b : ℕ) (ws : List ℕ) (k : ℕ) → (suc k ≡ length ws → ⊥) → first (end_causes b (drop k ws)) ≡ some 1
not_last b [] zero h = refl
not_last b [] (suc k) h = refl
not_last b (w ∷ []) zero h = absurd (h refl)
not_last b (w ∷ v ∷ over) zero h = refl
not_last b (w ∷ ws) (suc k) h = not_last b ws k (λ e. h (ap suc e))

the_last : (b : ℕ) (ws : List ℕ) (k : ℕ) → suc k ≡ length ws → first (end_causes b (drop k ws)) ≡ first (end_causes b (get_or ws k 0 ∷ []))
the_last b [] k e = absurd (omega arith)
the_last b (w ∷ []) zero e = refl
the_last b (w ∷ v ∷ over) zero e = absurd (omega arith)
the_last b (w ∷ ws) (suc k) e = the_last b ws k (omega arith)

-- it does: k words stand before it
ends : (ws : List ℕ) (k w : ℕ) → suc k ≡ length ws → w ≡ get_or ws k 0 → first (end_causes (length ws - 1) (drop k ws)) ≡ first (end_causes k (w ∷ []))
ends ws k w e is =
    let before : length ws - 1 ≡ k = omega arith in
    the_last (length ws - 1) ws k e ∙ ap₂ (λ n u. first (end_causes n (u ∷ []))) before (sym is)

-- what is found of the word in place k: another kind, another count, or nothing
other_kind : (k w : ℕ) → (kind w ≡ 3 → ⊥) → first (end_causes k (w ∷ [])) ≡ some 1
other_kind k w h = rw (ne_eqb (kind w) 3 h) refl

other_count : (k w : ℕ) → kind w ≡ 3 → (words_before w ≡ k → ⊥) → first (end_causes k (w ∷ [])) ≡ some 1
other_count k w e h = rw (eq-eqb (kind w) 3 e, ne_eqb (words_before w) k h) refl

right : (k w : ℕ) → kind w ≡ 3 → words_before w ≡ k → first (end_causes k (w ∷ [])) ≡ none
right k w e f = rw (eq-eqb (kind w) 3 e, eq-eqb (words_before w) k f) refl

pub returns-then-count-eq0 : goal.returns-then-count-eq0
returns-then-count-eq0 c =
    let ws = words c.args.block.now in
    let long = length-words c.args.block.now in
    sym (not_last (length ws - 1) ws c.args.k (elim c.then-count-eq0.branch [
      | then-count-eq0-via-then-count-eq0 w ↦ λ e. omega arith
      | then-count-eq0-via-else-count-eq0+then-k-count w ↦ λ e. omega arith
    ]))

pub returns-then-words_before-k : goal.returns-then-words_before-k
returns-then-words_before-k c =
    let ws = words c.args.block.now in
    let last : suc c.args.k ≡ length ws = omega (arith, length-words c.args.block.now) in
    sym (ends ws c.args.k c.load-word.result last c.load-word.ensures.value ∙
    other_count c.args.k c.load-word.result (sym c.kind.ensures ∙ c.in-3.is) (λ e. c.if-words_before-k.true (c.words_before.ensures ∙ e)))

pub returns-else-words_before-k : goal.returns-else-words_before-k
returns-else-words_before-k c =
    let ws = words c.args.block.now in
    let last : suc c.args.k ≡ length ws = omega (arith, length-words c.args.block.now) in
    sym (ends ws c.args.k c.load-word.result last c.load-word.ensures.value ∙
    right c.args.k c.load-word.result (sym c.kind.ensures ∙ c.in-3.is) (sym c.words_before.ensures ∙ c.if-words_before-k.false))

pub returns-in_default : goal.returns-in_default
returns-in_default c =
    let ws = words c.args.block.now in
    let last : suc c.args.k ≡ length ws = omega (arith, length-words c.args.block.now) in
    sym (ends ws c.args.k c.load-word.result last c.load-word.ensures.value ∙
    other_kind c.args.k c.load-word.result (λ e. omega arith))
