-- The first field of what is left stands before its first space, and the others behind.
use Rattle.fields.proofs.Split.{at_space, no_space}
use Rattle.fields.proofs.field.Fields.field.Goals as goal

pub returns-in-Some : goal.returns-in-Some
returns-in-Some c = rw c.in_ok-rest.ensures.ok_part (at_space _ (c.in-Some.field, c.in-Some.behind) c.in-Some.ensures.cases)

pub returns-in-None : goal.returns-in-None
returns-in-None c = rw c.in_ok-rest.ensures.ok_part (no_space _ c.in-None.ensures.cases)
