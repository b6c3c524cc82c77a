-- A number below 10 has one digit, any other those of its tenth and the last one.
use Rattle.std.proofs.Common.{ℕ, ◌+◌, ◌/◌, ◌<◌, ◌≤◌, length, arith}
use Rattle.std.proofs.lemmas.List.{length-append}
use Rattle.text.specs.Text.{decimal}
use Rattle.text.proofs.Digits.{one_digit, more_digits}
use Rattle.text.proofs.Sets.{put_one, put-put}
use Rattle.text.proofs.number.+put_digits.Goals as goal

one-room : (n at room : ℕ) → n < 10 → at + length (decimal n) ≤ room → at < room
one-room n at room l h = omega (arith, rw (one_digit n l) at h)

more_room : (n at room : ℕ) → 10 ≤ n → at + length (decimal n) ≤ room → at + length (decimal (n / 10)) < room
more_room n at room l h = omega (arith, rw (more_digits n l, length-append) at h)

pub bounds-out-at : goal.bounds-out-at
bounds-out-at t c = one-room c.args.n c.args.at (length c.args.out.now) (omega arith) c.requires

pub returns-then-n-lt10 : goal.returns-then-n-lt10
returns-then-n-lt10 t c = rw (one_digit c.args.n (omega arith)) (put_one _ _ _)

pub put_digits-last-requires : goal.put_digits-last-requires
put_digits-last-requires t c =
    let room = more_room c.args.n c.args.at (length c.args.out.now) (omega arith) c.requires in
    (omega arith, omega arith)

pub bounds-out-last : goal.bounds-out-last
bounds-out-last t c =
    let room = more_room c.args.n c.args.at (length c.args.out.now) (omega arith) c.requires in
    omega (arith, c.put_digits-last.ensures.next, c.put_digits-last.auto.out)

pub overflow_add-result-2 : goal.overflow_add-result-2
overflow_add-result-2 t c =
    let room = more_room c.args.n c.args.at (length c.args.out.now) (omega arith) c.requires in
    omega (arith, c.put_digits-last.ensures.next, c.put_digits-last.auto.out)

pub returns : goal.returns
returns t c =
    rw (more_digits c.args.n (omega arith)) (put-put c.put_digits-last.ensures (put_one _ _ _))
