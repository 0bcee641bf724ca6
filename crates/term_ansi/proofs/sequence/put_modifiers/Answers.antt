use Rattle.term_ansi.proofs.SgrLemmas.{nine_parts}
use Rattle.term_ansi.proofs.sequence.put_modifiers.Goals as goal

pub returns-clause-text : goal.returns-clause-text
returns-clause-text c =
    nine_parts c.args.set.0 _ _ _ _ _ _ _ _ _ _ c.put_modifier-at.ensures.text c.put_modifier-at-2.ensures.text c.put_modifier-at-3.ensures.text
    c.put_modifier-at-4.ensures.text c.put_modifier-at-5.ensures.text c.put_modifier-at-6.ensures.text c.put_modifier-at-7.ensures.text
    c.put_modifier-at-8.ensures.text c.put_modifier.ensures.text
