-- The readings that are counted so far, at most 32; each further one uses up one of those.
use Rattle.std.proofs.Common.{◌+◌, ◌-◌}
use Rattle.rounding.specs.Limits.{readings_max}
use Rattle.block.specs.Bytes.{words}
use Rattle.word_faults.proofs.Counting.{Come}
use Rattle.word_faults.proofs.readings.count_readings.Given as goal

abbrev pub invariant-loop-edition : goal.invariant-loop-edition
invariant-loop-edition l = Come (words l.block) l.from l.count

abbrev pub decreases-loop-edition : goal.decreases-loop-edition
decreases-loop-edition l = readings_max + 1 - l.count
