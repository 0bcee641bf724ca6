use Rattle.std.proofs.Common.{◌≡◌, ◌+◌, ◌-◌, ◌<◌, ◌==◌, ◌&&◌, refl, ap, ◌∙◌, arith}
use Rattle.term_core.specs.Buffers.{BufferView, cell_at}
use Rattle.term_widgets.proofs.AreaLemmas.{some_columns, some_rows}
use Rattle.term_widgets.proofs.BlockLemmas.{step, place_within, borders-at}
use Rattle.term_widgets.proofs.ChangeLemmas.{in_stretch}
use Rattle.term_widgets.proofs.block.draw_borders.Goals as goal

pub draw_row-requires-clause-within : goal.draw_row-requires-clause-within
draw_row-requires-clause-within c p a b =
    let w = some_columns c.args.area.width c.args.area.height c.requires.some in
    let h = some_rows c.args.area.width c.args.area.height c.requires.some in
    place_within c.args.area c.args.buf.now.area c.args.buf.now.area c.requires.within (refl) p c.y-top.result
    (omega (arith, w, h)) (omega (arith, w, h)) (omega (arith, w, h)) (omega (arith, w, h))

pub draw_row-requires-2-clause-within : goal.draw_row-requires-2-clause-within
draw_row-requires-2-clause-within c p a b =
    let w = some_columns c.args.area.width c.args.area.height c.requires.some in
    let h = some_rows c.args.area.width c.args.area.height c.requires.some in
    place_within c.args.area c.args.buf.now.area c.draw_row.new.buf.area c.requires.within (c.draw_row.ensures.area) p (c.bottom-bottom.result - 1)
    (omega (arith, w, h)) (omega (arith, w, h)) (omega (arith, w, h)) (omega (arith, w, h))

pub draw_column-requires-clause-within : goal.draw_column-requires-clause-within
draw_column-requires-clause-within c q a b =
    let w = some_columns c.args.area.width c.args.area.height c.requires.some in
    let h = some_rows c.args.area.width c.args.area.height c.requires.some in
    place_within c.args.area c.args.buf.now.area c.draw_row-2.new.buf.area c.requires.within (c.draw_row-2.ensures.area ∙ c.draw_row.ensures.area) c.x-left.result q
    (omega (arith, w, h)) (omega (arith, w, h)) (omega (arith, w, h)) (omega (arith, w, h))

pub draw_column-requires-2-clause-within : goal.draw_column-requires-2-clause-within
draw_column-requires-2-clause-within c q a b =
    let w = some_columns c.args.area.width c.args.area.height c.requires.some in
    let h = some_rows c.args.area.width c.args.area.height c.requires.some in
    place_within c.args.area c.args.buf.now.area c.draw_column.new.buf.area c.requires.within (c.draw_column.ensures.area ∙ c.draw_row-2.ensures.area ∙ c.draw_row.ensures.area) (c.right-right.result - 1) q
    (omega (arith, w, h)) (omega (arith, w, h)) (omega (arith, w, h)) (omega (arith, w, h))

pub draw_corner-requires : goal.draw_corner-requires
draw_corner-requires c =
    let w = some_columns c.args.area.width c.args.area.height c.requires.some in
    let h = some_rows c.args.area.width c.args.area.height c.requires.some in
    place_within c.args.area c.args.buf.now.area c.draw_column-2.new.buf.area c.requires.within (c.draw_column-2.ensures.area ∙ c.draw_column.ensures.area ∙ c.draw_row-2.ensures.area ∙ c.draw_row.ensures.area) c.x-left.result c.y-top.result
    (omega (arith, w, h)) (omega (arith, w, h)) (omega (arith, w, h)) (omega (arith, w, h))

pub draw_corner-requires-2 : goal.draw_corner-requires-2
draw_corner-requires-2 c =
    let w = some_columns c.args.area.width c.args.area.height c.requires.some in
    let h = some_rows c.args.area.width c.args.area.height c.requires.some in
    place_within c.args.area c.args.buf.now.area c.draw_corner.new.buf.area c.requires.within (c.draw_corner.ensures.area ∙ c.draw_column-2.ensures.area ∙ c.draw_column.ensures.area ∙ c.draw_row-2.ensures.area ∙ c.draw_row.ensures.area) (c.right-right.result - 1) c.y-top.result
    (omega (arith, w, h)) (omega (arith, w, h)) (omega (arith, w, h)) (omega (arith, w, h))

pub draw_corner-requires-3 : goal.draw_corner-requires-3
draw_corner-requires-3 c =
    let w = some_columns c.args.area.width c.args.area.height c.requires.some in
    let h = some_rows c.args.area.width c.args.area.height c.requires.some in
    place_within c.args.area c.args.buf.now.area c.draw_corner-2.new.buf.area c.requires.within (c.draw_corner-2.ensures.area ∙ c.draw_corner.ensures.area ∙ c.draw_column-2.ensures.area ∙ c.draw_column.ensures.area ∙ c.draw_row-2.ensures.area ∙ c.draw_row.ensures.area) c.x-left.result (c.bottom-bottom.result - 1)
    (omega (arith, w, h)) (omega (arith, w, h)) (omega (arith, w, h)) (omega (arith, w, h))

pub draw_corner-requires-4 : goal.draw_corner-requires-4
draw_corner-requires-4 c =
    let w = some_columns c.args.area.width c.args.area.height c.requires.some in
    let h = some_rows c.args.area.width c.args.area.height c.requires.some in
    place_within c.args.area c.args.buf.now.area c.draw_corner-3.new.buf.area c.requires.within (c.draw_corner-3.ensures.area ∙ c.draw_corner-2.ensures.area ∙ c.draw_corner.ensures.area ∙ c.draw_column-2.ensures.area ∙ c.draw_column.ensures.area ∙ c.draw_row-2.ensures.area ∙ c.draw_row.ensures.area) (c.right-right.result - 1) (c.bottom-bottom.result - 1)
    (omega (arith, w, h)) (omega (arith, w, h)) (omega (arith, w, h)) (omega (arith, w, h))

pub returns-clause-cells : goal.returns-clause-cells
returns-clause-cells c p q =
    let left = c.x-left.result in
    let right = c.right-right.result - 1 in
    let top = c.y-top.result in
    let bottom = c.bottom-bottom.result - 1 in
    let w = some_columns c.args.area.width c.args.area.height c.requires.some in
    let h = some_rows c.args.area.width c.args.area.height c.requires.some in
    c.draw_corner-4.ensures.cells p q
    ∙ ap (step 0x2518 ((p == right) && (q == bottom))) (c.draw_corner-3.ensures.cells p q
    ∙ ap (step 0x2514 ((p == left) && (q == bottom))) (c.draw_corner-2.ensures.cells p q
    ∙ ap (step 0x2510 ((p == right) && (q == top))) (c.draw_corner.ensures.cells p q
    ∙ ap (step 0x250C ((p == left) && (q == top))) (c.draw_column-2.ensures.cells p q
    ∙ ap (step 0x2502 ((p == right) && in_stretch top (bottom + 1) q)) (c.draw_column.ensures.cells p q
    ∙ ap (step 0x2502 ((p == left) && in_stretch top (bottom + 1) q)) (c.draw_row-2.ensures.cells p q
    ∙ ap (step 0x2500 (in_stretch left (right + 1) p && (q == bottom))) (c.draw_row.ensures.cells p q)))))))
    ∙ borders-at c.args.area p q left right top bottom (cell_at c.args.buf.now p q) c.requires.some
    c.x-left.ensures c.y-top.ensures (omega (arith, w, c.right-right.ensures)) (omega (arith, h, c.bottom-bottom.ensures))
