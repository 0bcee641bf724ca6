use Rattle.std.proofs.Common.{◌∙◌, ap, Some, List, ℕ, Option}
use Rattle.std.specs.Option.{option_map, option_and_then}
use Rattle.term_text.specs.declared.style.Style.{Style}
use Rattle.ansi_text.specs.Reads.{StyleRead, with_sequence}
use Rattle.ansi_text.specs.Sequences.{items}
use Rattle.ansi_text.proofs.SequenceLemmas.{with_sequence-items, with_sequence-end}
use Rattle.ansi_text.proofs.sequence.sequence.Goals as goal

abbrev behind : Style → Option (List ℕ) → Option StyleRead
behind style o = option_map (with_sequence style) (option_and_then items o)

pub returns-in-Some : goal.returns-in-Some
returns-in-Some c =
    ap (λ style. Some (record { style = style; rest = c.in-Some.rest.now })) c.reset.ensures
    ∙ (with_sequence-end c.args.style c.in_ok-bytes.bytes.now _ c.in-Some.ensures ∙ ap (behind c.args.style) c.in_ok-bytes.ensures)

pub returns-in-None : goal.returns-in-None
returns-in-None c =
    c.items.ensures ∙ (with_sequence-items c.args.style c.in_ok-bytes.bytes.now c.in-None.ensures ∙ ap (behind c.args.style) c.in_ok-bytes.ensures)
