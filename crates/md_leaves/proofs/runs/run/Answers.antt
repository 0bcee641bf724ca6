use Rattle.std.proofs.Common.{◌≡◌, ◌+◌, ◌-◌, ◌∙◌, ℕ, List, ap, sym, arith, drop, take, Some}
use Rattle.md_leaves.specs.Runs.{char_after, char_before, run_between}
use Rattle.md_leaves.proofs.RunLemmas.{counted, run-place, run-marked, mark_of-ascii}
use Rattle.md_leaves.proofs.runs.run.Goals as goal

pub range_from-requires : goal.range_from-requires
range_from-requires c =
    let source : List ℕ = c.args.source.now in
    let k = counted source c.as_bytes-bytes.result.now c.rest_of.result.now c.args.at c.stretch-n.result c.as_bytes-bytes.ensures.value c.rest_of.ensures c.stretch-n.ensures.value in
    λ some. run-place source c.args.at c.stretch-n.result _ c.utf8.source c.requires k.first (mark_of-ascii _ c.in-Some.mark (sym c.mark_of.ensures ∙ c.in-Some.is)) (omega (arith, k.count))

pub returns-in-Some-clause-value : goal.returns-in-Some-clause-value
returns-in-Some-clause-value c =
    let source : List ℕ = c.args.source.now in
    let at : ℕ = c.args.at in
    let n : ℕ = c.stretch-n.result in
    let k = counted source c.as_bytes-bytes.result.now c.rest_of.result.now at n c.as_bytes-bytes.ensures.value c.rest_of.ensures c.stretch-n.ensures.value in
    let front : c.range.result.now ≡ take at source = c.range.ensures.value ∙ ap (λ j. take j source) (let e : at - 0 ≡ at = omega arith in e) in
    let before : c.char_before-before.result ≡ char_before (take at source) = c.char_before-before.ensures ∙ ap char_before front in
    let after : c.char_after-after.result ≡ char_after (drop (at + n) source) = c.char_after-after.ensures ∙ ap char_after c.range_from.ensures.value in
    ap Some (c.run_between.ensures ∙ (ap (λ x. run_between c.in-Some.mark n x c.char_after-after.result) before ∙ ap (run_between c.in-Some.mark n (char_before (take at source))) after))
    ∙ sym (run-marked source at n _ c.in-Some.mark k.first (sym c.mark_of.ensures ∙ c.in-Some.is) k.count)
