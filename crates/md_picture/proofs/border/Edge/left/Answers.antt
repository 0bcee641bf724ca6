use Rattle.std.proofs.Common.{ap, sym}
use Rattle.std.specs.Char.{encode_utf8}
use Rattle.md_picture.specs.Picture.{left_of}
use Rattle.md_picture.proofs.border.Edge.left.Goals as goal

pub returns-in-Top : goal.returns-in-Top
unfolding encode_utf8
returns-in-Top c = sym (ap left_of c.in-Top.is)

pub returns-in-Middle : goal.returns-in-Middle
unfolding encode_utf8
returns-in-Middle c = sym (ap left_of c.in-Middle.is)

pub returns-in-Bottom : goal.returns-in-Bottom
unfolding encode_utf8
returns-in-Bottom c = sym (ap left_of c.in-Bottom.is)
