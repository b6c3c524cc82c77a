-- What is left of a line has a field at least, so nothing is left only behind the last.
use Rattle.fields.proofs.Split.{none_left}
use Rattle.fields.proofs.field.Fields.is_end.Goals as goal

pub returns : goal.returns
returns c = none_left c.args.self.now.rest _ c.is_none.ensures
