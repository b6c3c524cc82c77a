-- At the end nothing is left of the bytes, and the place is behind two digits for each.
use Rattle.std.proofs.Common.{◌≡◌, length, arith}
use Rattle.std.proofs.Math.Seq.{drop-length}
use Rattle.text.proofs.Sets.{hex_length}
use Rattle.text.proofs.bytes.put_hex.Goals as goal

pub returns-clause-put : goal.returns-clause-put
returns-clause-put c =
    let bytes = c.args.bytes.now in
    let e : c.loop-b.b-index ≡ length bytes = omega arith in
    record { next = omega (arith, hex_length bytes); holds = rw (e, drop-length bytes) at c.loop-b.invariant.rest }
