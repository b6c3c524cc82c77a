-- How many a view shows: the length of what it shows.
use Rattle.std.proofs.Common.{sym}
use Rattle.block.specs.Bytes.{words}
use Rattle.readings.proofs.Strided.{strided-length}
use Rattle.readings.proofs.view.View.count.Goals as goal

pub returns : goal.returns
returns c =
    let view = c.args.self in
    sym (strided-length (words view.bytes.now) view.start view.stride view.count)
