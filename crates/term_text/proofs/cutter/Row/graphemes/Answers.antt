use Rattle.std.proofs.Common.{ap, take}
use Rattle.term_text.specs.Rows.{row_left, row_graphs}
use Rattle.term_text.proofs.cutter.Row.graphemes.Goals as goal

pub returns : goal.returns
unfolding row_left row_graphs
returns c = ap (take c.args.self.now.len) c.copy.ensures
