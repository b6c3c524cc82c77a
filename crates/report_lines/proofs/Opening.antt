-- What is found of a block: which of the report's causes comes first, by the limit and by what read does.
use borrow.Author.Tests.{lt-ltb, le-ltb, ltb-false}
use mathlib.Core.List.{List, [], ◌∷◌}
use mathlib.Core.Option.{Option, none, some}
use mathlib.Core.Path.{◌≡◌, refl, sym, ◌∙◌, ap}
use Rattle.std.specs.Prelude.{Ok, Err}
use Prim.Native.Nat.{ℕ, ◌≤◌, ◌<◌}
use lib.Dec.{ltb}
use lib.ListN.{length}
use Rattle.scans.specs.RefusalTable.{first, bad_form, too_few}
use Rattle.knot.specs.declared.table.Refusal.{Refusal}
use Rattle.knot.specs.declared.table.Refusal.TheVariants as Refusals
use Rattle.scans.proofs.Causes.{first_found, first-later, quiet, quiet-right}
use Rattle.block.specs.Block.{block_max}
use Rattle.block.specs.Reading.{block_causes, list_of}
use Rattle.calls.specs.Calls.{accepted, refused, read, reply_to, standing_after}
use Rattle.reel.specs.Machine.{Does, scans, reply_of}
use Rattle.reel.specs.declared.held.Reel.{Reel}
use Rattle.reel.specs.declared.answer.Answer.{Answer}
use Rattle.reel.specs.declared.answer.Answer.TheVariants as Answers
use Rattle.report_lines.specs.Report.{refused_line, report_causes, reported, report_of}
use Rattle.report_lines.specs.Machine.{Opens}

-- over the limit
pub opens_over : (bytes : List ℕ) → block_max < length bytes → Opens (Err Refusals.Form) bytes
unfolding report_causes
opens_over bytes h =
    let over : first (report_causes bytes) ≡ some 1 = rw (lt-ltb block_max (length bytes) h) refl in
    record { verdict = sym over; list = tt }

-- within the limit read's causes come first, then 8
module _ (bytes : List ℕ) (h : length bytes ≤ block_max) where
  read_first : {n : ℕ} → first (block_causes bytes) ≡ some n → first (report_causes bytes) ≡ some n
  unfolding report_causes
  read_first e = rw (le-ltb block_max (length bytes) h) (first_found (block_causes bytes) (too_few (length (list_of bytes)) ∷ []) e)

  count_last : first (block_causes bytes) ≡ none → first (report_causes bytes) ≡ first (too_few (length (list_of bytes)) ∷ [])
  unfolding report_causes
  count_last e = rw (le-ltb block_max (length bytes) h) (first-later (block_causes bytes) (too_few (length (list_of bytes)) ∷ []) e)

  module _ {given r : Reel} {a : Answer} (d : Does (read bytes) given a r []) where
    -- a refused read names the first cause
    refused_first : {n : ℕ} → reply_of a ≡ refused n → (o : Option ℕ) → first (block_causes bytes) ≡ o → first (report_causes bytes) ≡ some n
    unfolding reply_to
    refused_first e none q =
        let same : refused _ ≡ accepted = sym e ∙ rw q at d.replies in
        cc
    refused_first {n} e (some m) q =
        let same : refused n ≡ refused m = sym e ∙ rw q at d.replies in
        let is : n ≡ m = cc in
        read_first q ∙ ap some (sym is)

    pub opens_refused : (cause : Refusal) → a ≡ Answers.Refused cause → Opens (Err cause) bytes
    opens_refused cause e = record { verdict = sym (refused_first (ap reply_of e) (first (block_causes bytes)) refl); list = tt }

    -- another one leaves the list of the block
    module _ (other : (cause : Refusal) → a ≡ Answers.Refused cause → ⊥) where
      no_refusal : {n : ℕ} (b : Answer) → a ≡ b → reply_of b ≡ refused n → ⊥
      no_refusal Answers.Accepted e q = cc
      no_refusal (Answers.Number z) e q = cc
      no_refusal (Answers.Refused cause) e q = other cause e

      taken : (o : Option ℕ) → first (block_causes bytes) ≡ o → (first (block_causes bytes) ≡ none) × (scans r ≡ list_of bytes)
      unfolding reply_to standing_after
      taken none q = (q, rw q at d.leaves)
      taken (some n) q = absurd (no_refusal a refl (rw q at d.replies))

      pub opens_few : length (scans r) < 2 → Opens (Err Refusals.Few) bytes
      opens_few few =
          let t = taken (first (block_causes bytes)) refl in
          record { verdict = sym (count_last t.0 ∙ rw (← t.1, lt-ltb (length (scans r)) 2 few) refl); list = tt }

      pub opens_list : 2 ≤ length (scans r) → Opens (Ok r) bytes
      opens_list many =
          let t = taken (first (block_causes bytes)) refl in
          record { verdict = sym (count_last t.0 ∙ rw (← t.1, le-ltb (length (scans r)) 2 many) refl); list = t.1 }

-- ---- the report, by the first of its causes

pub reported-refusal : (bytes : List ℕ) {n : ℕ} → first (report_causes bytes) ≡ some n → report_of bytes ≡ refused_line n
unfolding report_of
reported-refusal bytes e = rw e refl

module _ (bytes : List ℕ) (e : first (report_causes bytes) ≡ none) where
  pub reported_reel : report_of bytes ≡ reported none (list_of bytes)
  unfolding report_of
  reported_reel = rw e refl

  pub two-knots : 2 ≤ length (list_of bytes)
  unfolding report_causes
  two-knots =
      ltb-false (length (list_of bytes)) 2
      (quiet-right (bad_form (ltb block_max (length bytes)) ∷ block_causes bytes) (too_few (length (list_of bytes)) ∷ []) (quiet (report_causes bytes) e)).0
