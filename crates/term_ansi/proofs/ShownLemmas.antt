-- The widths of printable symbols.
use Rattle.std.proofs.Common.{◌≡◌, ℕ, ◌<◌, ◌&&◌, ◌||◌, true, cond, nat_le, List, [], ◌∷◌, sym, ap, ◌∙◌, arith}
use Rattle.std.proofs.lemmas.Bool.{false≢true}
use Rattle.std.proofs.lemmas.Bool.Decides.{nat_tests}
use Rattle.std.proofs.lemmas.Str.{encode_ascii}
use Rattle.term_text.specs.Graph.{width_of}
use Rattle.term_text.specs.Plain.{is_narrow, is_wide}
use Rattle.term_text.proofs.PlainLemmas.{width_of-plain}
use Rattle.term_text.proofs.PlainWidths.{ascii_narrow}
use Rattle.term_ansi.specs.Printable.{is_printable}

printable_narrow : (b : ℕ) → (nat_le 32 b && nat_le b 126) ≡ true → is_narrow b ≡ true
printable_narrow b h = ascii_narrow b (grind (arith, nat_tests, h)) (grind (arith, nat_tests, h))

printable_ascii : (b : ℕ) → (nat_le 32 b && nat_le b 126) ≡ true → b < 128
printable_ascii b h = grind (arith, nat_tests)

-- a printable symbol has one column
pub printable-width : (bs : List ℕ) → is_printable bs ≡ true → 1 ≡ width_of bs
printable-width [] h = absurd (false≢true h)
printable-width (b ∷ []) h =
    let narrow = printable_narrow b h in
    sym (ap width_of (sym (encode_ascii b (printable_ascii b h))) ∙ width_of-plain b (ap (λ v. v || is_wide b) narrow) ∙ ap (λ v. cond v 1 2) narrow)
printable-width (b ∷ c ∷ bs) h = absurd (false≢true h)
