-- Knot k is there, so its position is answered.
use borrow.Author.Tests.{lt-leb}
use Rattle.std.specs.Prelude.{Result, Ok, Err, IsOk}
use Rattle.std.proofs.Common.{List, ℕ, ◌≡◌, ◌<◌, length, pos, refl, sym, ◌∙◌, ap}
use Rattle.scans.specs.Scan.{Scan, at}
use Rattle.knot.specs.declared.table.Refusal.{Refusal}
use Rattle.calls.specs.Calls.{position_of, number}
use Rattle.reel.specs.Machine.{position_reply, scans}
use Rattle.report_lines.proofs.row.position.Goals as goal

module _ (list : List Scan) (k : ℕ) (h : k < length list) where
  replies : position_of k list ≡ number (pos (at list k).position)
  unfolding position_of
  replies = rw (lt-leb (length list) k h) refl

  there : (r : Result ℕ Refusal) → position_reply r ≡ position_of k list → IsOk r
  there (Ok x) e = refl
  there (Err cause) e =
      let same = e ∙ replies in
      cc

  is : (r : Result ℕ Refusal) (x : ℕ) → r ≡ Ok x → position_reply r ≡ position_of k list → x ≡ (at list k).position
  is r x e q =
      let same : number (pos x) ≡ number (pos (at list k).position) = ap position_reply (sym e) ∙ q ∙ replies in
      cc

pub unwrap-requires : goal.unwrap-requires
unwrap-requires c = there (scans c.args.reel) c.args.k c.requires c.position.result c.position.ensures

pub returns : goal.returns
returns c =
    c.from.ensures ∙ is (scans c.args.reel) c.args.k c.requires c.position.result c.unwrap.result c.unwrap.ensures c.position.ensures
