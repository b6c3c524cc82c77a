-- Four rounds after four are eight.
use Rattle.half_sum.proofs.RunningSums.{more-rounds, room-left}
use Rattle.half_sum.proofs.running.eight_rounds.Goals as goal

pub four_rounds-requires-2 : goal.four_rounds-requires-2
four_rounds-requires-2 c = room-left 4 4 c.requires c.four_rounds.ensures

pub returns : goal.returns
returns c = more-rounds c.args.w.now 4 4 c.four_rounds.ensures c.four_rounds-2.ensures
