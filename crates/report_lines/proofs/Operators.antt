-- Request 1/14: two accepted blocks that differ only in readings and end count have the same report.
use borrow.Author.Tests.{le-ltb}
use mathlib.Core.List.{List, [], ◌∷◌}
use mathlib.Core.Option.{none}
use mathlib.Core.Path.{◌≡◌, sym, ◌∙◌, ap}
use Prim.Native.Nat.{ℕ}
use lib.ListN.{length}
use Rattle.scans.specs.Scan.{Scan}
use Rattle.scans.specs.RefusalTable.{first, too_few}
use Rattle.scans.proofs.Causes.{first-later}
use Rattle.block.specs.Block.{block_max}
use Rattle.block.specs.Reading.{block_causes, list_of}
use Rattle.block.specs.View.{Alike}
use Rattle.block.proofs.Written.{accepted-length}
use Rattle.block.proofs.Operators.{alike-lists}
use Rattle.report_lines.specs.Report.{report_causes, reported, report_of}

-- the report of an accepted block looks at its list alone
abbrev list_report : List Scan → List ℕ
list_report scans = reported (first (too_few (length scans) ∷ [])) scans

accepted_report : (bytes : List ℕ) → first (block_causes bytes) ≡ none → report_of bytes ≡ list_report (list_of bytes)
unfolding report_causes report_of
accepted_report bytes quiet =
    rw (le-ltb block_max (length bytes) (accepted-length bytes quiet))
    (ap (λ found. reported found (list_of bytes)) (first-later (block_causes bytes) (too_few (length (list_of bytes)) ∷ []) quiet))

pub alike_reports : (bytes others : List ℕ) → Alike bytes others → report_of bytes ≡ report_of others
alike_reports bytes others alike =
    accepted_report bytes alike.one_accepted ∙ ap list_report (alike-lists bytes others alike) ∙ sym (accepted_report others alike.other_accepted)
