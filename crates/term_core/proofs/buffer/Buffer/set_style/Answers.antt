use Rattle.std.proofs.Common.{◌≡◌, ◌%◌, ◌/◌, ◌*◌, ap, ap₂, subst, ◌∙◌, arith}
use Rattle.std.proofs.Math.Nat.{le_antisymm}
use Rattle.term_core.specs.Rect.{intersection}
use Rattle.term_core.specs.Buffers.{BufferView}
use Rattle.term_core.proofs.StyleLemmas.{StyledTo, StyledTo-none, StyledTo-step, StyledTo-all}
use Rattle.term_core.proofs.buffer.Buffer.set_style.Goals as goal

pub cells-init : goal.cells-init
cells-init c = StyledTo-none _ _ _

pub cells-preserved : goal.cells-preserved
cells-preserved c =
    let r = c.intersection-cut.result in
    let across : c.column.result ≡ c.cells.at % r.width = cc in
    let down : c.row.result ≡ c.cells.at / r.width = cc in
    StyledTo-step r c.args.style c.cells.at c.args.self.now c.cells.self c.set_style_at.new.self _ _
    c.cells.invariant (cc) (cc) (omega arith) (omega arith) c.set_style_at.ensures.area c.set_style_at.ensures.cells

pub returns-clause-cells : goal.returns-clause-cells
returns-clause-cells c =
    let cut = c.intersection-cut.result in
    let is : cut ≡ intersection c.args.area c.args.self.now.area =
    c.intersection-cut.ensures ∙ ap (λ (b : BufferView). intersection c.args.area b.area) c.self.view_is in
    let all : c.cells.at ≡ cut.height * cut.width =
    le_antisymm c.cells.auto.at-end c.cells-test.false ∙ ap₂ (λ a b. a * b) c.height-height.ensures c.width-width.ensures in
    StyledTo-all c.args.area c.args.style c.cells.at c.args.self.now c.cells.self
    (subst (λ r. StyledTo r c.args.style c.cells.at c.args.self.now c.cells.self) is c.cells.invariant)
    (all ∙ ap (λ r. r.height * r.width) is)
