-- A round after a round is two.
use Rattle.half_sum.proofs.RunningSums.{more-rounds, room-left}
use Rattle.half_sum.proofs.running.two_rounds.Goals as goal

pub one_round-requires-2 : goal.one_round-requires-2
one_round-requires-2 c = room-left 1 1 c.requires c.one_round.ensures

pub returns : goal.returns
returns c = more-rounds c.args.w.now 1 1 c.one_round.ensures c.one_round-2.ensures
