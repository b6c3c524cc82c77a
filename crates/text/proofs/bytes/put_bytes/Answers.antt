-- The part that was copied over is the text, stored into what stood there before.
use Rattle.std.proofs.Common.{◌≡◌, ℕ, ◌+◌, ◌≤◌, List, length, arith, rules}
use Rattle.std.proofs.lemmas.Grind.{common_steps}
use Rattle.std.proofs.lemmas.List.Edits.{sets, sets-eq}
use Rattle.std.proofs.lemmas.Slice.{put_mid-paste}
use borrow.Rule.Slice.PartMut.{put_mid}
use Rattle.text.proofs.bytes.put_bytes.Goals as goal

over : (l vs ws : List ℕ) (i k : ℕ) → ws ≡ vs → k ≡ length vs → i + length vs ≤ length l → put_mid i k l ws ≡ sets l i vs
over l vs ws i k e n h = rw (sets-eq vs l i h) (grind (arith, common_steps, put_mid-paste))

pub returns : goal.returns
returns c =
    record { next = search rules; holds = over c.args.out.now c.args.text.now _ c.args.at _ c.copy_from_slice.ensures.after (omega arith) (omega arith) }
