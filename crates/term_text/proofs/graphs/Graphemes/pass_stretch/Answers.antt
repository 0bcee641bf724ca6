use Rattle.std.proofs.Common.{◌≡◌, ◌≤◌, ◌+◌, ◌-◌, length, drop, map, ◌++◌, ap, sym, ◌∙◌, arith, rules, length-drop, drop-drop, ℕ}
use Rattle.term_text.specs.Graph.{visible}
use Rattle.term_text.specs.Iter.{stretch_left, graphs_left, pieces_left, plain_left}
use Rattle.term_text.specs.Plain.{byte_grapheme}
use Rattle.term_text.proofs.GraphLemmas.{drop-stretch}
use Rattle.term_text.proofs.graphs.Graphemes.pass_stretch.Goals as goal

pub prove-unreachable-requires : goal.prove-unreachable-requires
unfolding stretch_left
prove-unreachable-requires c = let s = c.args.self.now in omega (arith, c.requires, c.if-prove.true, length-drop s.passed s.stretch.now)

pub overflow_add-self : goal.overflow_add-self
unfolding stretch_left
overflow_add-self c =
    let s = c.args.self.now in
    let some : c.args.n ≤ length s.stretch.now - s.passed = omega (arith, c.requires, length-drop s.passed s.stretch.now) in
    let within = s.within in
    search (rules, arith)

pub invariant_of-self : goal.invariant_of-self
unfolding stretch_left
invariant_of-self c =
    let s = c.args.self.now in
    let some : c.args.n ≤ length s.stretch.now - s.passed = omega (arith, c.requires, length-drop s.passed s.stretch.now) in
    let within = s.within in
    record { printable = s.printable; within = omega arith }

pub returns : goal.returns
unfolding stretch_left graphs_left pieces_left plain_left
returns c =
    let s = c.args.self.now in
    let more : drop (s.passed + c.args.n) s.stretch.now ≡ drop c.args.n (drop s.passed s.stretch.now) =
    ap (λ (k : ℕ). drop k s.stretch.now) (omega arith) ∙ sym (drop-drop c.args.n s.passed s.stretch.now) in
    ap (λ bs. map (byte_grapheme s.style) bs ++ (plain_left s ++ visible s.style (pieces_left s))) more
    ∙ sym (drop-stretch s.style c.args.n (drop s.passed s.stretch.now) (plain_left s ++ visible s.style (pieces_left s)) c.requires)
