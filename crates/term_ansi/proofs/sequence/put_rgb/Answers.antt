use Rattle.term_ansi.proofs.PutLemmas.{rgb_parts}
use Rattle.term_ansi.proofs.sequence.put_rgb.Goals as goal

pub returns-clause-text : goal.returns-clause-text
returns-clause-text c =
    rgb_parts _ _ _ _ _ _ c.args.code c.args.r c.args.g c.args.b c.put_code-at.ensures.text c.put_code-at-2.ensures.text c.put_code-at-3.ensures.text
    c.put_code-at-4.ensures.text c.put_code.ensures.text
