use Rattle.std.proofs.Common.{length, ap, arith}
use Rattle.term_text.proofs.RowIndexLemmas.{length-counts}
use Rattle.term_text.proofs.row_index.RowIndex.lines.Goals as goal

pub returns : goal.returns
returns c = omega (arith, c.len.ensures, length-counts 0 c.self.inside.ends.items, ap length c.self.view_is)
