use Rattle.std.proofs.Common.{ℕ, List, ap, ◌∙◌}
use Rattle.std.specs.Char.{encode_utf8}
use Rattle.md_picture.specs.Picture.{styled}
use Rattle.md_picture.proofs.border.bar.Goals as goal

pub returns : goal.returns
unfolding encode_utf8
returns c = c.styled.ensures ∙ ap (λ (t : List ℕ). styled t c.args.style) c.borrowed.ensures
