-- Document 01, "The reel": the calls that change the list, `changes`, are those that leave some list otherwise.
use mathlib.Core.Bool.{false}
use mathlib.Core.List.{List, [], ◌∷◌}
use mathlib.Core.Path.{◌≡◌, refl, sym, ◌∙◌, ap}
use Prim.Native.Nat.{suc, ◌<◌}
use native.Mathlib.Omega.{arith}
use lib.IntN.{pos}
use lib.ListN.{length, replicate, length-replicate, get_or-replicate}
use lib.Seq.{get_or-set_same}
use Rattle.scans.specs.Scan.{Scan, scan_of, at}
use Rattle.calls.specs.Calls.{Call, clear, append, correct, read, write, value, trend, total, changed, changes}

-- a call that leaves every list as it is, is none that changes it; so a write and every query hand back the very reel
pub unchanged : (call : Call) → ((scans : List Scan) → changed call scans ≡ scans) → changes call ≡ false
unchanged clear stays = absurd (omega (arith, ap length (stays (scan_of 0 [] ∷ []))))
unchanged (append x C) stays = absurd (omega (arith, ap length (stays [])))
unchanged (correct k C) stays =
    let s : Scan = scan_of 0 (pos 0 ∷ C) in
    let l : List Scan = replicate (suc k) s in
    let there : k < length l = omega (arith, length-replicate (suc k) s) in
    let same : scan_of (at l k).position C ≡ s =
    sym (get_or-set_same l k _ (scan_of 0 []) there) ∙ ap (λ scans. at scans k) (stays l) ∙ get_or-replicate (suc k) k s (scan_of 0 []) (omega arith) in
    absurd (omega (arith, ap (λ t. length t.coefficients) same))
unchanged (read bytes) stays = absurd (omega (arith, ap length (stays (scan_of 0 [] ∷ changed (read bytes) []))))
unchanged (write out) stays = refl
unchanged (value x) stays = refl
unchanged (trend x) stays = refl
unchanged (total i j) stays = refl
