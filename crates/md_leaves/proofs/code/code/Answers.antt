use Rattle.std.proofs.Common.{◌≡◌, ◌∙◌, ℕ, List, ap, sym, refl, get_or, drop}
use Rattle.std.specs.List.{prefix_len}
use Rattle.std.proofs.lemmas.List.{get_or-drop}
use Rattle.md_leaves.specs.Code.{is_tick}
use Rattle.md_leaves.proofs.RunLemmas.{prefix_len-stops}
use Rattle.md_leaves.proofs.code.code.Goals as goal

pub next_end-end-requires-clause-behind : goal.next_end-end-requires-clause-behind
next_end-end-requires-clause-behind c =
    let rest : List ℕ = drop c.args.at c.args.source.now in
    let count : c.stretch-n.result ≡ prefix_len is_tick rest = c.stretch-n.ensures.value ∙ ap (prefix_len is_tick) c.rest_of.ensures in
    ap is_tick (sym (get_or-drop c.args.at c.args.source.now c.stretch-n.result 0) ∙ ap (λ k. get_or rest k 0) count) ∙ prefix_len-stops is_tick rest refl
