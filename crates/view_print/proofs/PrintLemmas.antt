-- Steps of a print.
use Rattle.std.proofs.Common.{◌≡◌, ◌≢◌, ℕ, ◌+◌, ◌-◌, ◌<◌, ◌≤◌, false, cond, ◌==◌, List, [], ◌∷◌, ◌++◌, length, take, drop, get_or, refl, sym, ap, ◌∙◌, arith, append-nil}
use Rattle.std.proofs.lemmas.Bool.Decides.{nat_tests}
use Rattle.std.proofs.lemmas.List.{take_more, take-append-drop, take-take, drop_all, drop-append-le, length-take-le}
use Rattle.term_core.specs.Cells.{CellView}
use Rattle.view_print.specs.Print.{symbols, trimmed, before_trimmed, row_text, lines_of}

pub symbols-none : symbols [] ≡ []
unfolding symbols
symbols-none = refl

pub symbols-cons : (c : CellView) (cs : List CellView) → symbols (c ∷ cs) ≡ c.symbol ++ symbols cs
unfolding symbols
symbols-cons c cs = refl

pub lines_of-none : lines_of [] ≡ []
unfolding lines_of
lines_of-none = refl

pub lines_of-cons : (row : List CellView) (rows : List (List CellView)) → lines_of (row ∷ rows) ≡ (row_text row ++ 10 ∷ []) ++ lines_of rows
unfolding lines_of
lines_of-cons row rows = refl

-- ---- spaces at the end

trimmed-space : (bs : List ℕ) → trimmed (bs ++ 32 ∷ []) ≡ trimmed bs
unfolding trimmed
trimmed-space [] = refl
trimmed-space (b ∷ bs) = ap (before_trimmed b) (trimmed-space bs)

-- a byte before a text that ends in no space
kept : (b : ℕ) (bs : List ℕ) (c : ℕ) → before_trimmed b (bs ++ c ∷ []) ≡ b ∷ (bs ++ c ∷ [])
kept b [] c = refl
kept b (d ∷ bs) c = refl

trimmed-other : (bs : List ℕ) (c : ℕ) → (c == 32) ≡ false → trimmed (bs ++ c ∷ []) ≡ bs ++ c ∷ []
unfolding trimmed
trimmed-other [] c e = ap (λ t. cond t [] (c ∷ [])) e
trimmed-other (b ∷ bs) c e = ap (before_trimmed b) (trimmed-other bs c e) ∙ kept b bs c

trimmed-none : trimmed [] ≡ []
unfolding trimmed
trimmed-none = refl

-- the bytes from `start` to before `end` have all that stays
pub record TrimsTo (bs : List ℕ) (start end : ℕ) : Type 0 where
  pub after : start ≤ end
  pub within : end ≤ length bs
  pub same : trimmed (drop start bs) ≡ trimmed (drop start (take end bs))

-- the bytes up to one, and that one
last_byte : (bs : List ℕ) (start end b : ℕ) → start < end → end ≤ length bs → b ≡ get_or bs (end - 1) b
    → drop start (take end bs) ≡ drop start (take (end - 1) bs) ++ b ∷ []
last_byte bs start end b after within is =
    let before : end ≡ (end - 1) + 1 = omega arith in
    let lt : end - 1 < length bs = omega arith in
    ap (λ n. drop start (take n bs)) before
    ∙ ap (drop start) (take_more bs (end - 1) b lt ∙ ap (λ x. take (end - 1) bs ++ x ∷ []) (sym is))
    ∙ drop-append-le start (take (end - 1) bs) (b ∷ []) (omega (arith, length-take-le (end - 1) bs (omega arith)))

pub TrimsTo-step : (bs : List ℕ) (start end b : ℕ) → TrimsTo bs start end → start < end → b ≡ get_or bs (end - 1) b → b ≡ 32 → TrimsTo bs start (end - 1)
TrimsTo-step bs start end b trims after is space =
    let within = trims.within in
    record {
      after = omega arith;
      within = omega arith;
      same = trims.same ∙ ap trimmed (last_byte bs start end b after trims.within is ∙ ap (λ x. drop start (take (end - 1) bs) ++ x ∷ []) space)
          ∙ trimmed-space (drop start (take (end - 1) bs));
    }

-- what stays is what stands before the end
both : (bs : List ℕ) (start end : ℕ) → start ≤ end → end ≤ length bs → take start bs ++ drop start (take end bs) ≡ take end bs
both bs start end after within =
    ap (λ t. t ++ drop start (take end bs)) (sym (take-take start end bs after)) ∙ take-append-drop start (take end bs)

pub TrimsTo-none : (bs : List ℕ) (start end : ℕ) → TrimsTo bs start end → end ≤ start → take end bs ≡ take start bs ++ trimmed (drop start bs)
TrimsTo-none bs start end trims over =
    let after = trims.after in
    let here : end ≡ start = omega arith in
    sym (ap (λ t. take start bs ++ t) (trims.same ∙ ap trimmed (drop_all start (take end bs) (omega (arith, length-take-le end bs trims.within))) ∙ trimmed-none)
    ∙ append-nil (take start bs) ∙ ap (λ n. take n bs) (sym here))

pub TrimsTo-other : (bs : List ℕ) (start end b : ℕ) → TrimsTo bs start end → start < end → b ≡ get_or bs (end - 1) b → b ≢ 32
    → take end bs ≡ take start bs ++ trimmed (drop start bs)
TrimsTo-other bs start end b trims after is other =
    let last = last_byte bs start end b after trims.within is in
    sym (both bs start end trims.after trims.within)
    ∙ ap (λ t. take start bs ++ t) (sym (trims.same ∙ ap trimmed last ∙ trimmed-other (drop start (take (end - 1) bs)) b (test b other) ∙ sym last))
  where
    test : (b : ℕ) → b ≢ 32 → (b == 32) ≡ false
    test b h = grind (arith, nat_tests)
