use Rattle.term_ansi.proofs.PutLemmas.{indexed_parts}
use Rattle.term_ansi.proofs.sequence.put_indexed.Goals as goal

pub returns-clause-text : goal.returns-clause-text
returns-clause-text c = indexed_parts _ _ _ _ c.args.code c.args.n c.put_code-at.ensures.text c.put_code-at-2.ensures.text c.put_code.ensures.text
