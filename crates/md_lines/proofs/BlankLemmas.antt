-- What is left without the blanks at the end.
use Rattle.std.proofs.Common.{cond, List, [], ◌∷◌, ◌++◌, length, take, drop, get_or, ◌≡◌, ◌≤◌, ◌<◌, ◌+◌, ◌-◌, ℕ, refl, sym, ap, ◌∙◌, arith, true, false, Bool, ◌&&◌}
use Rattle.std.specs.List.{list_all}
use Rattle.std.proofs.lemmas.List.{take_more}
use Rattle.std.proofs.lemmas.List.Folds.{list_all-append}
use Rattle.std.specs.Str.{IsCharBoundary}
use Rattle.std.proofs.lemmas.Str.{IsCharBoundary-before_ascii}
use Rattle.std.proofs.lemmas.Bool.Decides.{nat_tests}
use Rattle.md_lines.specs.Blanks.{is_blank, without_end_blanks}

-- the blanks at the end of the bytes
abbrev pub end_blanks : List ℕ → List ℕ
end_blanks bs = drop (length (without_end_blanks bs)) bs

-- they follow what is left
pub without_end_blanks-end_blanks : (bs : List ℕ) → without_end_blanks bs ++ end_blanks bs ≡ bs
unfolding without_end_blanks
without_end_blanks-end_blanks [] = refl
without_end_blanks-end_blanks (b ∷ bs) =
    elim (list_all is_blank (b ∷ bs)) as (λ v. cond v [] (b ∷ without_end_blanks bs) ++ drop (length (cond v [] (b ∷ without_end_blanks bs))) (b ∷ bs) ≡ b ∷ bs) [
      | true ↦ refl
      | false ↦ ap (λ x. b ∷ x) (without_end_blanks-end_blanks bs)
    ]

-- and are blanks
pub end_blanks-all : (bs : List ℕ) → list_all is_blank (end_blanks bs) ≡ true
unfolding without_end_blanks
end_blanks-all [] = refl
end_blanks-all (b ∷ bs) = go (list_all is_blank (b ∷ bs)) refl (end_blanks-all bs)
  where
    go : (v : Bool) → list_all is_blank (b ∷ bs) ≡ v → list_all is_blank (end_blanks bs) ≡ true → list_all is_blank (drop (length (cond v [] (b ∷ without_end_blanks bs))) (b ∷ bs)) ≡ true
    go true e rest = e
    go false e rest = rest

-- a blank more at the end changes nothing
pub without_end_blanks-blank : (xs : List ℕ) (b : ℕ) → is_blank b ≡ true → without_end_blanks (xs ++ b ∷ []) ≡ without_end_blanks xs
unfolding without_end_blanks
without_end_blanks-blank [] b e = rw e refl
without_end_blanks-blank (x ∷ xs) b e =
    let same : list_all is_blank (x ∷ xs ++ b ∷ []) ≡ list_all is_blank (x ∷ xs) = list_all-append is_blank (x ∷ xs) (b ∷ []) ∙ all (list_all is_blank (x ∷ xs)) in
    rw (same, without_end_blanks-blank xs b e) refl
  where
    all : (v : Bool) → (v && (is_blank b && true)) ≡ v
    all true = rw e refl
    all false = refl

-- nothing is taken off behind another byte
pub without_end_blanks-solid : (xs : List ℕ) (b : ℕ) → is_blank b ≡ false → without_end_blanks (xs ++ b ∷ []) ≡ xs ++ b ∷ []
unfolding without_end_blanks
without_end_blanks-solid [] b e = rw e refl
without_end_blanks-solid (x ∷ xs) b e =
    let some : list_all is_blank (x ∷ xs ++ b ∷ []) ≡ false = list_all-append is_blank (x ∷ xs) (b ∷ []) ∙ all (list_all is_blank (x ∷ xs)) in
    rw (some, without_end_blanks-solid xs b e) refl
  where
    all : (v : Bool) → (v && (is_blank b && true)) ≡ false
    all true = rw e refl
    all false = refl

-- how far the search from the end has come
pub record Trims (text : List ℕ) (end : ℕ) : Type 0 where
  pub within : end ≤ length text
  pub so_far : without_end_blanks (take end text) ≡ without_end_blanks text
  pub boundary : IsCharBoundary text end

is_blank-ascii : (b : ℕ) → is_blank b ≡ true → b < 128
is_blank-ascii b e = grind (arith, nat_tests)

last_byte : (text : List ℕ) (end : ℕ) → 0 < end → end ≤ length text → take end text ≡ take (end - 1) text ++ get_or text (end - 1) 0 ∷ []
last_byte text end some within =
    let same : end ≡ end - 1 + 1 = omega arith in
    ap (λ n. take n text) same ∙ take_more text (end - 1) 0 (omega arith)

pub Trims-step : (text : List ℕ) (end : ℕ) → 0 < end → is_blank (get_or text (end - 1) 0) ≡ true → Trims text end → Trims text (end - 1)
Trims-step text end some blank t = record {
  within = omega (arith, t.within);
  so_far = sym (without_end_blanks-blank (take (end - 1) text) (get_or text (end - 1) 0) blank) ∙ (ap without_end_blanks (sym (last_byte text end some t.within)) ∙ t.so_far);
  boundary = let within = t.within in IsCharBoundary-before_ascii text (end - 1) (omega arith) (is_blank-ascii (get_or text (end - 1) 0) blank);
}

pub Trims-none : (text : List ℕ) (end : ℕ) → end ≡ 0 → Trims text end → take end text ≡ without_end_blanks text
unfolding without_end_blanks
Trims-none text end none t = rw none (rw none at t.so_far)

pub Trims-end : (text : List ℕ) (end : ℕ) → 0 < end → is_blank (get_or text (end - 1) 0) ≡ false → Trims text end → take end text ≡ without_end_blanks text
Trims-end text end some solid t =
    let last = last_byte text end some t.within in
    last ∙ (sym (without_end_blanks-solid (take (end - 1) text) (get_or text (end - 1) 0) solid) ∙ (ap without_end_blanks (sym last) ∙ t.so_far))
