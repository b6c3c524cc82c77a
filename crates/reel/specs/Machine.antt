-- The machine's reel and answers in the model, and what each call promises.
use Rattle.std.specs.Prelude.{false, List, ◌≡◌, ℕ, ℤ, pos, take, Result, Ok, Err}
use Rattle.scans.specs.Scan.{Scan}
use Rattle.knot.specs.Machine.{scans as scans_in, number as refusalNumber}
use Rattle.knot.specs.declared.table.Refusal.{Refusal}
use Rattle.calls.specs.Calls.{Call, Reply, accepted, number, refused, changes, reply_to, standing_after, output}
use Rattle.calls.specs.Combination.{sum_reply, sum_scans}
use Rattle.reel.specs.declared.held.Reel.{Reel}
use Rattle.reel.specs.declared.answer.Answer.{Answer}
use Rattle.reel.specs.declared.answer.Answer.TheVariants as Answers

-- the scans of a reel: those of its first `count` knots, the others being free. That they can stand is part of the
-- type `Reel`, as its ghost field `standing`
unfoldable pub scans : Reel → List Scan
scans r = scans_in (take r.count r.knots)

-- the reply of an answer, with the documents' numbers
abbrev pub reply_of : Answer → Reply
reply_of Answers.Accepted = accepted
reply_of (Answers.Number z) = number z
reply_of (Answers.Refused cause) = refused (refusalNumber cause)

-- and of a position, or of the refusal in its place
abbrev pub position_reply : Result ℕ Refusal → Reply
position_reply (Ok x) = number (pos x)
position_reply (Err cause) = refused (refusalNumber cause)

-- what every call promises, of the reel it gets, its answer, the reel it hands back and the lent output as it leaves it
pub record Does (call : Call) (given : Reel) (answer : Answer) (handed : Reel) (out : List ℕ) : Type 0 where
  -- the reply is the model's on the scans given
  pub replies : reply_of answer ≡ reply_to call (scans given)
  -- the scans left are the model's
  pub leaves : scans handed ≡ standing_after call (scans given)
  -- after a refusal the reel handed back is the very one given
  pub refusal_keeps : (n : ℕ) → reply_of answer ≡ refused n → handed ≡ given
  -- and so it is after a call that does not change the list: a write or a query
  pub no_change_keeps : changes call ≡ false → handed ≡ given
  -- all bytes of the output are the model's
  pub writes : out ≡ output call (scans given)

-- what the sum promises, of the reels that it gets, its answer and the reel that it hands over (request 4/14)
pub record Combines (α β : ℤ) (given other : Reel) (answer : Answer) (handed : Reel) : Type 0 where
  -- the reply is the model's on the scans given
  pub replies : reply_of answer ≡ sum_reply α β (scans given) (scans other)
  -- the scans of the reel handed over are the model's
  pub leaves : scans handed ≡ sum_scans α β (scans given) (scans other)
  -- after a refusal it is the very first reel
  pub refusal_keeps : (n : ℕ) → reply_of answer ≡ refused n → handed ≡ given
