use Rattle.std.proofs.Common.{◌≡◌, ◌-◌, ◌∙◌, List, ℕ, Bool, true, false, cond, ap, length}
use Rattle.std.specs.List.{suffix_len}
use Rattle.term_text.specs.LineEnds.{is_one_line}
use Rattle.md_rules.specs.Texts.{trimmed}
use Rattle.md_rules.specs.Headings.{ends_blank, is_hash, without_closing, without_hashes}
use Rattle.md_rules.proofs.OneLine.{is_one_line-take, is_one_line-trimmed}
use Rattle.md_rules.proofs.heading.content_of.Goals as goal

without_closing-one_line : (text : List ℕ) → is_one_line text ≡ true → is_one_line (without_closing text) ≡ true
without_closing-one_line text one = go (ends_blank (without_hashes text))
  where
    go : (v : Bool) → is_one_line (cond v (without_hashes text) text) ≡ true
    go true = is_one_line-take (length text - suffix_len is_hash text) text one
    go false = one

pub invariant_of-result : goal.invariant_of-result
invariant_of-result c =
    (c.trimmed.utf8, ap is_one_line (c.trimmed.ensures ∙ ap trimmed c.without_closing.ensures) ∙ is_one_line-trimmed (without_closing c.args.text.now) (without_closing-one_line c.args.text.now c.requires))
