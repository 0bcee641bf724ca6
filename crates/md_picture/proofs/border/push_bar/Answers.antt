use Rattle.std.specs.Char.{encode_utf8}
use Rattle.md_picture.proofs.border.push_bar.Goals as goal

pub returns : goal.returns
unfolding encode_utf8
returns c = rw c.bar.ensures at c.in_ok-push_span.ensures.ok
