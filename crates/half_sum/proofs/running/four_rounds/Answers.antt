-- Two rounds after two are four.
use Rattle.half_sum.proofs.RunningSums.{more-rounds, room-left}
use Rattle.half_sum.proofs.running.four_rounds.Goals as goal

pub two_rounds-requires-2 : goal.two_rounds-requires-2
two_rounds-requires-2 c = room-left 2 2 c.requires c.two_rounds.ensures

pub returns : goal.returns
returns c = more-rounds c.args.w.now 2 2 c.two_rounds.ensures c.two_rounds-2.ensures
