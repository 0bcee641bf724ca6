use Rattle.term_ansi.proofs.PutLemmas.{opening}
use Rattle.term_ansi.proofs.SgrLemmas.{sequence_parts}
use Rattle.term_ansi.proofs.sequence.put_sequence.Goals as goal

pub returns-clause-text : goal.returns-clause-text
returns-clause-text c =
    sequence_parts c.args.look _ _ _ _ _ _ (opening _ _ _ _ c.put-at.ensures.text c.put-at-2.ensures.text c.put-at-3.ensures.text)
    c.put_modifiers-at.ensures.text c.put_color-at.ensures.text c.put_color-at-2.ensures.text c.put.ensures.text
