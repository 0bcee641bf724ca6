use Rattle.std.proofs.Common.{◌≡◌, ◌<◌, ◌-◌, ◌==◌, ◌+◌, ◌∙◌, ap, subst, sym, length, arith, ℕ, List, get_or, false, Bool, ◌≤◌}
use Rattle.std.specs.Str.{IsCharBoundary, IsUtf8}
use Rattle.std.proofs.lemmas.Bool.Decides.{nat_tests}
use Rattle.std.proofs.lemmas.Str.{IsCharBoundary-after_ascii}
use Rattle.term_text.specs.LineEnds.{is_one_line}
use Rattle.md_rules.proofs.BracedLemmas.{braced-cut}
use Rattle.md_rules.proofs.OneLine.{is_one_line-take}
use Rattle.md_rules.proofs.attributes.braced.Goals as goal

not_empty : (bytes : List ℕ) (v : Bool) → v ≡ (length bytes == 0) → v ≡ false → 0 < length bytes
not_empty bytes v e f = grind (arith, nat_tests)

behind_brace : (text bytes : List ℕ) (n : ℕ) → bytes ≡ text → IsUtf8 text → 0 < n → n ≤ length bytes → get_or bytes (n - 1) 0 ≡ 123 → IsCharBoundary text n
behind_brace text bytes n same utf8 some le e =
    let next : n - 1 + 1 ≡ n = omega arith in
    let byte : get_or text (n - 1) 0 ≡ 123 = ap (λ (t : List ℕ). get_or t (n - 1) 0) (sym same) ∙ e in
    let within : n ≤ length text = subst (λ (t : List ℕ). n ≤ length t) same le in
    subst (λ (k : ℕ). IsCharBoundary text k) next (IsCharBoundary-after_ascii text (n - 1) utf8 (omega arith) (omega arith))

pub returns-clause-parts : goal.returns-clause-parts
returns-clause-parts c =
    braced-cut c.args.text.now c.as_bytes-bytes.result.now c.range.result.now c.range-2.result.now c.behind_last_brace.result c.as_bytes-bytes.ensures.value
    (not_empty c.as_bytes-bytes.result.now c.is_empty.result c.is_empty.ensures c.if-is_empty.false) c.if-bytes-ne125.false c.behind_last_brace.ensures.value (omega arith) c.if-bytes-end-ne123.false
    c.range.ensures.value c.range-2.ensures.value

pub returns-clause-one_line : goal.returns-clause-one_line
returns-clause-one_line c = λ one. ap is_one_line c.range.ensures.value ∙ is_one_line-take (length c.as_bytes-bytes.result.now - 1 - c.behind_last_brace.result - 1 - 0) c.args.text.now one

pub range-requires-2-clause-start_boundary : goal.range-requires-2-clause-start_boundary
range-requires-2-clause-start_boundary c =
    λ some. behind_brace c.args.text.now c.as_bytes-bytes.result.now (length c.as_bytes-bytes.result.now - 1 - c.behind_last_brace.result) c.as_bytes-bytes.ensures.value c.utf8.text some (omega arith) c.if-bytes-end-ne123.false
