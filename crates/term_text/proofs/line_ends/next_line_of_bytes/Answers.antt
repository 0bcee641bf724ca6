use Rattle.std.proofs.Common.{◌≡◌, ◌-◌, List, ℕ, length, drop, take, sym, ap, subst, ◌∙◌}
use Rattle.term_text.specs.LineEnds.{AtEnd, after_end, end_length, first_end}
use Rattle.term_text.proofs.EndLemmas.{AtEnd-first_end, after_end-drop, raw_lines-rest, after_end-shorter, take-rest}
use Rattle.term_text.proofs.line_ends.next_line_of_bytes.Goals as goal

rest_is : (text : List ℕ) (end : ℕ) → end ≡ first_end text → take (length text - end) (drop end text) ≡ drop (first_end text) text
rest_is text end e = take-rest end text ∙ ap (λ n. drop n text) e

after_is : (rest : List ℕ) (n : ℕ) → n ≡ end_length rest → take (length rest - n) (drop n rest) ≡ after_end rest
after_is rest n e = take-rest n rest ∙ ap (λ k. drop k rest) e ∙ sym (after_end-drop rest)

pub end_length-requires : goal.end_length-requires
end_length-requires c =
    subst AtEnd (sym (rest_is c.args.bytes.now c.first_end-end.result c.first_end-end.ensures.value)) (AtEnd-first_end c.args.bytes.now)

pub returns-clause-lines : goal.returns-clause-lines
returns-clause-lines c =
    raw_lines-rest c.args.bytes.now _ _ _ c.requires (ap (λ n. take n c.args.bytes.now) c.first_end-end.ensures.value)
    (rest_is c.args.bytes.now c.first_end-end.result c.first_end-end.ensures.value)
    (after_is _ c.end_length.result c.end_length.ensures.value)

pub returns-clause-shorter : goal.returns-clause-shorter
returns-clause-shorter c =
    after_end-shorter c.args.bytes.now _ _ c.requires
    (rest_is c.args.bytes.now c.first_end-end.result c.first_end-end.ensures.value)
    (after_is _ c.end_length.result c.end_length.ensures.value)
