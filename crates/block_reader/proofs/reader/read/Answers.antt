-- A fault of the length or of the header is the first one; past both, what is read of the knots is what is read of the block.
use Rattle.std.proofs.Common.{List, [], ◌∷◌, ◌≡◌, ℕ, ◌-◌, ◌<◌, Result, refl, sym, ◌∙◌, ap, ap₂, arith, get_or, length}
use Rattle.std.proofs.lemmas.Result.{err_from_is_err_and}
use Rattle.std.proofs.Math.Option.{Option, none, some, some-ne-none}
use Rattle.scans.specs.Scan.{Scan}
use Rattle.scans.specs.RefusalTable.{first}
use Rattle.scans.proofs.Causes.{first_found, first-later}
use Rattle.knot.specs.declared.reason.Fault.{Fault}
use Rattle.block.specs.Bytes.{words}
use Rattle.block.specs.Fields.{knot_count, edition}
use Rattle.block.specs.Reading.{length_causes, header_causes, knots_causes, words_causes, block_causes, list_of_words, list_of}
use Rattle.block.proofs.RoundTrips.{accepted-written}
use Rattle.block_reader.specs.Machine.{Reads}
use Rattle.block_reader.specs.declared.contents.Contents.{Contents}
use Rattle.block_reader.proofs.reader.Come.{fault, list, refuses}
use Rattle.block_reader.proofs.reader.read.Goals as goal

-- ---- the header is due

header-found : {n : ℕ} (ws : List ℕ) → first (header_causes (get_or ws 0 0)) ≡ some n → first (words_causes ws) ≡ some n
header-found [] e = e
header-found (w ∷ ws) e = first_found (header_causes w) (knots_causes (edition w) (length ws) 0 (knot_count w) none ws) e

header-passed : (ws : List ℕ) → first (header_causes (get_or ws 0 0)) ≡ none → let w = get_or ws 0 0 in
    first (words_causes ws) ≡ fault (edition w) ws (knot_count w)
header-passed [] e = absurd (some-ne-none _ e)
header-passed (w ∷ ws) e =
    let rest : length ws ≡ length (w ∷ ws) - 1 = omega arith in
    first-later (header_causes w) (knots_causes (edition w) (length ws) 0 (knot_count w) none ws) e ∙
    ap (λ n. first (knots_causes (edition w) n 0 (knot_count w) none ws)) rest

-- there is a word
header-there : (ws : List ℕ) → first (header_causes (get_or ws 0 0)) ≡ none → 0 < length ws
header-there [] e = absurd (some-ne-none _ e)
header-there (w ∷ ws) e = omega arith

header-listed : (ws : List ℕ) → first (header_causes (get_or ws 0 0)) ≡ none → let w = get_or ws 0 0 in
    list_of_words ws ≡ list (edition w) ws (knot_count w)
header-listed [] e = refl
header-listed (w ∷ ws) e = refl

-- a fault of the length is the first one, and past it that of the words is
length-found : {n : ℕ} (bs : List ℕ) → first (length_causes (length bs)) ≡ some n → first (block_causes bs) ≡ some n
unfolding block_causes
length-found bs e = first_found (length_causes (length bs)) (words_causes (words bs)) e

length-passed : (bs : List ℕ) → first (length_causes (length bs)) ≡ none → first (block_causes bs) ≡ first (words_causes (words bs))
unfolding block_causes
length-passed bs e = first-later (length_causes (length bs)) (words_causes (words bs)) e

-- the header's causes stand where its word was loaded from
header_is : {found : Option ℕ} {w v : ℕ} → found ≡ first (header_causes w) → w ≡ v → first (header_causes v) ≡ found
header_is e is = sym (e ∙ ap (λ w. first (header_causes w)) is)

-- the length is accepted, and the header is not
header-first : {n : ℕ} (bs : List ℕ) → first (length_causes (length bs)) ≡ none → first (header_causes (get_or (words bs) 0 0)) ≡ some n →
    first (block_causes bs) ≡ some n
header-first bs e h = length-passed bs e ∙ header-found (words bs) h

-- ---- a fault before the first knot

pub returns-in_err-length_fault-clause-reads : goal.returns-in_err-length_fault-clause-reads
returns-in_err-length_fault-clause-reads c =
    let failed = err_from_is_err_and c.from_residual.result c.from_residual.ensures.1 in
    let here = c.in_err-length_fault.ensures in
    rw (failed.1, failed.2)
    (refuses _ (length_causes (length c.args.block.now)) (refl, tt) here (length-found c.args.block.now (sym here)))

pub returns-in_err-length_fault-clause-block_value : goal.returns-in_err-length_fault-clause-block_value
returns-in_err-length_fault-clause-block_value c none_found =
    absurd (some-ne-none _ (sym (length-found c.args.block.now (sym c.in_err-length_fault.ensures)) ∙ none_found))

pub returns-in_err-header_fault-clause-reads : goal.returns-in_err-header_fault-clause-reads
returns-in_err-header_fault-clause-reads c =
    let bs = c.args.block.now in
    let failed = err_from_is_err_and c.from_residual-in_err-header_fault.result c.from_residual-in_err-header_fault.ensures.1 in
    let here = header_is c.in_err-header_fault.ensures c.load-word.ensures.value in
    rw (failed.1, failed.2)
    (refuses _ (header_causes (get_or (words bs) 0 0)) (refl, (refl, tt)) (sym here) (header-first bs (sym c.in_ok-length_fault.ensures) here))

pub returns-in_err-header_fault-clause-block_value : goal.returns-in_err-header_fault-clause-block_value
returns-in_err-header_fault-clause-block_value c none_found =
    let here = header_is c.in_err-header_fault.ensures c.load-word.ensures.value in
    absurd (some-ne-none _ (sym (header-first c.args.block.now (sym c.in_ok-length_fault.ensures) here) ∙ none_found))

-- ---- both are accepted, and the header's fields are handed on

read_as : {r : Result Contents Fault} {f g : Option ℕ} {l m : List Scan} → g ≡ f → m ≡ l → Reads r f l → Reads r g m
read_as p q reads = rw (p, q) reads

pub returns-clause-reads : goal.returns-clause-reads
unfolding list_of
returns-clause-reads c =
    let bs = c.args.block.now in
    let ws = words bs in
    let quiet_header = header_is c.in_ok-header_fault.ensures c.load-word.ensures.value in
    let e = sym (c.edition.ensures ∙ ap edition c.load-word.ensures.value) in
    let n = sym (c.knot_count.ensures ∙ ap knot_count c.load-word.ensures.value) in
    read_as (length-passed bs (sym c.in_ok-length_fault.ensures) ∙ header-passed ws quiet_header ∙ ap₂ (λ n m. fault n ws m) e n)
    (header-listed ws quiet_header ∙ ap₂ (λ n m. list n ws m) e n) c.read_knots.ensures

pub returns-clause-block_value : goal.returns-clause-block_value
returns-clause-block_value c none_found plain =
    let quiet_header = header_is c.in_ok-header_fault.ensures c.load-word.ensures.value in
    accepted-written c.args.block.now (c.load-word.ensures.below (header-there (words c.args.block.now) quiet_header)) none_found plain
