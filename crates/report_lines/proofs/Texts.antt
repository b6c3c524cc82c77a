-- Texts put one behind another, and the lines that they make.
use mathlib.Core.List.{List, [], ◌++◌, append_assoc}
use mathlib.Core.Path.{◌≡◌, refl, sym}
use Prim.Native.Nat.{ℕ, ◌≤◌}
use native.Mathlib.Nat.{add-zero}
use native.Mathlib.Omega.{arith}
use lib.ListN.{length, take}
use lib.Seq.{length-sets, sets-eq, take_at}
use Rattle.text.specs.Text.{Put}
use Rattle.text.proofs.Sets.{put-put}
use Rattle.scans.specs.Scan.{Scan}
use Rattle.calls.specs.Calls.{Reply, total, reply_to}
use Rattle.report_lines.specs.Report.{piece_line, reel_line, reel_text}
use Rattle.report_lines.specs.Machine.{Asks, row_text}
use Rattle.report_lines.specs.declared.row.Row.{Row}

pub put_none : (l : List ℕ) (i : ℕ) → Put l i [] i l
put_none l i = record { next = sym (add-zero i); holds = refl }

-- a text with what stands behind it, as the lines are written
pub put-behind : {l l' l'' xs : List ℕ} {i j k : ℕ} (ys zs : List ℕ) → Put l i xs j l' → Put l' j (ys ++ zs) k l'' → Put l i (xs ++ ys ++ zs) k l''
put-behind ys zs p q = rw append_assoc (put-put p q)

pub row_is : {row : Row} {scans : List Scan} {k : ℕ} → Asks row scans k → row_text row ≡ piece_line scans k
unfolding piece_line
row_is a = rw (a.index, a.from, a.to, a.value, a.trend, a.total) refl

pub reel_is : (scans : List Scan) (n : ℕ) {reply : Reply} → reply ≡ reply_to (total 0 n) scans → reel_text n reply ≡ reel_line scans n
unfolding reel_line
reel_is scans n e = rw e refl

-- what stands in the room after a text was put at its start
pub put_first : {l l' text : List ℕ} {r : ℕ} → Put l 0 text r l' → r ≤ length l → (r ≤ length l') × (take r l' ≡ text)
put_first {l} {l'} {text} {r} p h =
    let e : r ≡ length text = omega (arith, p.next) in
    rw (p.holds, e) (rw length-sets (omega arith), rw (sets-eq text l 0 (omega arith)) (take_at text _ _ refl))
