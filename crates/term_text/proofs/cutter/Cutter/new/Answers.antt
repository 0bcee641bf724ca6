use Rattle.std.proofs.Common.{ap}
use Rattle.term_text.specs.Wrap.{wrap}
use Rattle.term_text.specs.Rows.{rows_left}
use Rattle.term_text.proofs.cutter.Cutter.new.Goals as goal

pub returns : goal.returns
unfolding rows_left
returns c = ap (wrap c.args.width) c.new.ensures
