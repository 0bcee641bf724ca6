use Rattle.std.proofs.Common.{◌+◌, ◌-◌, ◌≡◌, ◌∙◌, ap, take, arith}
use Rattle.md_picture.specs.declared.row.TheConstants.{BLANKS}
use Rattle.md_picture.proofs.Blanks.{blanks-boundary, blanks-front}
use Rattle.md_picture.proofs.row.blanks.Goals as goal

pub range-requires-clause-end_boundary : goal.range-requires-clause-end_boundary
range-requires-clause-end_boundary c = blanks-boundary (c.args.room + 1) (omega (arith, c.if-room.true))

pub returns-then-room : goal.returns-then-room
returns-then-room c =
    let whole : c.args.room + 1 - 0 ≡ c.args.room + 1 = omega arith in
    c.borrowed.ensures ∙ c.range.ensures.value ∙ ap (λ n. take n BLANKS.now) whole
    ∙ blanks-front (c.args.room + 1) (omega (arith, c.if-room.true))
