-- The position of the knot that is found in place k, or 9.
use Rattle.std.proofs.Common.{sym, ◌∙◌, ap}
use Rattle.calls.specs.Calls.{position_of}
use Rattle.reel.proofs.held.Found.{position_there, no_position}
use Rattle.reel.proofs.held.Reel.position.Goals as goal

pub returns-in-Some : goal.returns-in-Some
returns-in-Some c =
    sym (position_there c.list.result.now c.args.k c.in-Some.knot.now c.in-Some.ensures.lookup.3) ∙ ap (position_of c.args.k) c.list.ensures

pub returns-in-None : goal.returns-in-None
returns-in-None c = sym (no_position c.list.result.now c.args.k c.in-None.ensures.lookup.3) ∙ ap (position_of c.args.k) c.list.ensures
