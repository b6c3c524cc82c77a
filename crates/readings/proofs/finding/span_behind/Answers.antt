-- The readings stand behind the knot's coefficients. What is answered here is looked at before what the search finds: so
-- readings from another word on are refused for where they stand, and not for what `unwrap` requires.
use Rattle.std.proofs.Common.{rules}
use Rattle.readings.proofs.finding.span_behind.Goals as goal

pub returns : goal.returns
returns c = search rules
