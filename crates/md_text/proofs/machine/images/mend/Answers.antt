use Rattle.std.proofs.Common.{◌≡◌, ◌++◌, ◌∷◌, ◌+◌, ◌≤◌, Bool, List, length, take, drop, ap, sym, ◌∙◌, arith}
use Rattle.std.specs.Prelude.{slice_set}
use Rattle.term_text.specs.Text.{SpanView}
use Rattle.md_text.specs.Images.{content, marker_before}
use Rattle.md_text.proofs.ImageLemmas.{follows, mended}
use Rattle.md_text.proofs.machine.images.mend.Goals as goal

pub returns : goal.returns
returns c =
    let all = c.args.pieces.now.items in
    let start = c.args.start in
    let shown = content c.args.fallback c.args.style c.args.dest_url.now (drop (start + 1) all) in
    let filled : c.fill.new.pieces.items ≡ take (start + 1) all ++ shown = c.in_ok-fill.ensures in
    let le : start + 1 ≤ length all = omega (arith, c.requires) in
    ap (λ (z : List SpanView). slice_set z start c.marker.result) filled
    ∙ mended all shown start c.marker.result c.requires
    ∙ ap (λ (z : SpanView). take start all ++ z ∷ shown)
    (c.marker.ensures ∙ ap (marker_before c.args.style) (follows all shown (start + 1) c.len.result le (c.len.ensures ∙ c.fill.new.pieces.ok.0 ∙ ap (λ (z : List SpanView). length z) filled)))
