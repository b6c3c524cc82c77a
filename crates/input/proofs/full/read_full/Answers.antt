-- What a read gave stands behind what stood there before, and the reader has lost it behind what it had lost.
use Rattle.std.proofs.Common.{◌≡◌, ℕ, ◌+◌, ◌≤◌, List, ◌++◌, length, take, sym, ap, subst, ◌∙◌, ◌-◌, rules}
use Rattle.std.proofs.Math.Seq.{take-append-add}
use Rattle.std.proofs.lemmas.List.{take-append-le, length-take-le}
use Rattle.std.proofs.KnownBytes.{Consumes-trans}
use Rattle.std.specs.Io.KnownBytes.{Consumes}
use borrow.Rule.Slice.PartMut.{put_mid, post_of}
use Rattle.input.proofs.full.read_full.Goals as goal

taken : (d k n : ℕ) (xs ys : List ℕ) → d ≤ length xs → n ≤ length ys → take (d + n) (put_mid d k xs ys) ≡ take d xs ++ take n ys
taken d k n xs ys h l =
    ap (λ m. take (m + n) (take d xs ++ (ys ++ post_of d k xs))) (sym (length-take-le d xs h))
    ∙ take-append-add (take d xs) (ys ++ post_of d k xs) n
    ∙ ap (λ t. take d xs ++ t) (take-append-le n ys (post_of d k xs) l)

pub loop-done-preserved : goal.loop-done-preserved
loop-done-preserved g c =
    let d = c.loop-done.done in
    let k = length c.loop-done.buffer - d in
    let behind = taken d k c.in_ok-n.n c.loop-done.buffer c.read.new.buf c.loop-done.invariant.within c.in_ok-n.ensures.bound.0 in
    let both = Consumes-trans _ _ _ _ _ c.loop-done.invariant.taken c.in_ok-n.ensures.bytes.0 in
    record { within = search rules; same_room = search rules; taken = subst (Consumes _ _) (sym behind) both }
