use Rattle.std.proofs.Common.{ap, ◌∙◌, List, ℕ}
use Rattle.md_picture.specs.Picture.{styled}
use Rattle.md_picture.proofs.Borders.{line_of, border_line-is}
use Rattle.md_picture.proofs.border.border_line.Goals as goal

pub returns : goal.returns
returns c =
    (rw c.new-line.ensures at c.in_ok-push_span.ensures.ok)
    ∙ ap line_of (c.styled-span.ensures ∙ ap (λ (t : List ℕ). styled t c.args.style) (c.owned.ensures ∙ c.in_ok-border_text.ensures))
    ∙ border_line-is c.args.style c.args.edge c.args.columns.now c.requires
