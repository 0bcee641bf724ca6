-- All leaves of a source may be cut.
use Rattle.std.proofs.Common.{List, [], ◌∷◌, length, drop, get_or, ◌≡◌, ◌≤◌, ◌<◌, ◌+◌, ℕ, zero, suc, refl, sym, ap, subst, ◌∙◌, arith, Bool, true, false, cond, Option, Some, None, is_some, add-zero, nat_lt, length-drop}
use Rattle.std.specs.Str.{IsUtf8, IsCharBoundary}
use Rattle.std.proofs.lemmas.Bool.{false≢true}
use Rattle.std.proofs.lemmas.Bool.Decides.{nat_tests}
use Rattle.std.proofs.lemmas.List.{get_or-drop, drop-drop}
use Rattle.std.proofs.lemmas.Str.{IsCharBoundary-start, IsCharBoundary-end, IsCharBoundary-before_ascii}
use Rattle.term_text.specs.LineEnds.{ends_line}
use Rattle.md_leaves.specs.declared.cut.Cut.{Cut}
use Rattle.md_leaves.specs.Cuts.{AreLeaves}
use Rattle.md_leaves.specs.Angles.{angle}
use Rattle.md_leaves.specs.Code.{code}
use Rattle.md_leaves.specs.Math.{math}
use Rattle.md_leaves.specs.Closers.{closer}
use Rattle.md_leaves.specs.Runs.{run}
use Rattle.md_leaves.specs.Leaves.{cut_at, escape, line_end, opener, reference, leaves, leaves_after, marked, or_text, text_length}
use Rattle.md_leaves.proofs.TextLemmas.{always, marked-always, marked-letter}
use Rattle.md_leaves.proofs.PlaceLemmas.{Clean, Clean-join, Clean-one, IsText-clean}
use Rattle.md_leaves.proofs.GoodCuts.{Good, GoodIfAny, good-or, escape-good, line_end-good, opener-good, code-good, run-good}
use Rattle.md_leaves.proofs.GoodClosers.{closer-good}
use Rattle.md_leaves.proofs.GoodEnclosed.{angle-good, math-good, reference-good}

marked-good : (source : List ℕ) (at : ℕ) → IsUtf8 source → IsCharBoundary source at → at < length source → GoodIfAny source at (marked source at (drop at source))
marked-good source at utf8 start lt =
    let bs : List ℕ = drop at source in
    good-or source at (escape bs) _ (escape-good source at utf8 start)
    (good-or source at (line_end bs) _ (line_end-good source at utf8 start)
    (good-or source at (code bs) _ (code-good source at utf8 start lt)
    (good-or source at (math bs) _ (math-good source at utf8 start)
    (good-or source at (angle bs) _ (angle-good source at utf8 start)
    (good-or source at (reference bs) _ (reference-good source at utf8 start)
    (good-or source at (opener bs) _ (opener-good source at utf8 start)
    (good-or source at (closer at bs) (run source at bs) (closer-good source at utf8 start) (run-good source at utf8 start lt))))))))

-- a rule fits at ASCII bytes alone
marked-ascii : (source bs : List ℕ) (at b : ℕ) → is_some (marked source at (b ∷ bs)) ≡ true → b < 128
marked-ascii source bs at b fits = go (nat_lt b 128) refl
  where
    go : (v : Bool) → nat_lt b 128 ≡ v → b < 128
    go true e = grind (arith, nat_tests)
    go false e =
        let high : 128 ≤ b = grind (arith, nat_tests) in
        absurd (false≢true (sym (ap is_some (marked-letter source bs at b (grind (arith, nat_tests)))) ∙ fits))

-- and at each line end
unmarked-letter : (source bs : List ℕ) (at b : ℕ) → is_some (marked source at (b ∷ bs)) ≡ false → ends_line b ≡ false
unmarked-letter source bs at b none = go (ends_line b) refl
  where
    go : (v : Bool) → ends_line b ≡ v → v ≡ false
    go true e =
        let fits : always b ≡ true = grind (arith, nat_tests) in
        absurd (false≢true (sym none ∙ marked-always source bs at b fits))
    go false e = refl

-- a text from a place on, and where it ends
record IsTextEnd (source : List ℕ) (at to : ℕ) : Type 0 where
  clean : Clean source at to
  stop : IsCharBoundary source to

rest-past : (source bs : List ℕ) (at : ℕ) → drop at source ≡ bs → bs ≡ [] → at ≤ length source → at ≡ length source
rest-past source bs at e none le = let short : length (drop at source) ≡ 0 = ap length (e ∙ none) in omega (arith, length-drop at source)

-- what stands in front of the rest of a source
rest-first : (source bs : List ℕ) (at b : ℕ) → drop at source ≡ b ∷ bs → get_or source at 0 ≡ b
rest-first source bs at b e = ap (λ k. get_or source k 0) (sym (add-zero at)) ∙ (sym (get_or-drop at source 0 0) ∙ ap (λ x. get_or x 0 0) e)

rest-within : (source bs : List ℕ) (at b : ℕ) → drop at source ≡ b ∷ bs → at < length source
rest-within source bs at b e = omega (arith, length-drop at source, ap length e)

rest-next : (source bs : List ℕ) (at b : ℕ) → drop at source ≡ b ∷ bs → drop (at + 1) source ≡ bs
rest-next source bs at b e = sym (drop-drop 1 at source) ∙ ap (drop 1) e

text-end : (source : List ℕ) (at : ℕ) (bs : List ℕ) → drop at source ≡ bs → at ≤ length source → IsTextEnd source at (at + text_length source at bs)
unfolding text_length
text-end source at [] e le =
    let end : length source ≡ at + 0 = sym (rest-past source [] at e refl le) ∙ sym (add-zero at) in
    record { clean = λ k from to. absurd (omega arith); stop = subst (IsCharBoundary source) end (IsCharBoundary-end source) }
text-end source at (b ∷ bs) e le = go (is_some (marked source at (b ∷ bs))) refl (text-end source (at + 1) bs (rest-next source bs at b e))
  where
    lt : at < length source
    lt = rest-within source bs at b e

    go : (v : Bool) → is_some (marked source at (b ∷ bs)) ≡ v → (at + 1 ≤ length source → IsTextEnd source (at + 1) (at + 1 + text_length source (at + 1) bs)) → IsTextEnd source at (at + cond v 0 (suc (text_length source (at + 1) bs)))
    go true fits more =
        let low : get_or source at 0 < 128 = omega (arith, marked-ascii source bs at b fits, rest-first source bs at b e) in
        record { clean = λ k from to. absurd (omega arith); stop = subst (IsCharBoundary source) (sym (add-zero at)) (IsCharBoundary-before_ascii source at lt low) }
    go false none more =
        let here : at < length source = lt in
        let rest = more (omega arith) in
        let n : ℕ = text_length source (at + 1) bs in
        let to : at + 1 + n ≡ at + suc n = omega arith in
        let plain : ends_line (get_or source at 0) ≡ false = ap ends_line (rest-first source bs at b e) ∙ unmarked-letter source bs at b none in
        record {
          clean = subst (Clean source at) to (Clean-join source at (at + 1) (at + 1 + n) (Clean-one source at plain) rest.clean);
          stop = subst (IsCharBoundary source) to rest.stop;
        }

cut-good : (source bs : List ℕ) (at b : ℕ) → drop at source ≡ b ∷ bs → IsUtf8 source → IsCharBoundary source at → Good source at (cut_at source at b bs)
cut-good source bs at b e utf8 start =
    go (marked source at (b ∷ bs)) refl (subst (λ x. GoodIfAny source at (marked source at x)) e (marked-good source at utf8 start (rest-within source bs at b e)))
  where
    n : ℕ
    n = text_length source (at + 1) bs

    go : (o : Option Cut) → marked source at (b ∷ bs) ≡ o → GoodIfAny source at o → Good source at (or_text o n)
    go None none good =
        let rest : IsTextEnd source (at + 1) (at + 1 + n) = text-end source (at + 1) bs (rest-next source bs at b e) (let h : at < length source = rest-within source bs at b e in omega arith) in
        let plain : ends_line (get_or source at 0) ≡ false = ap ends_line (rest-first source bs at b e) ∙ unmarked-letter source bs at b (ap is_some none) in
        record {
          cut = IsText-clean source at (at + 1 + n) (omega arith) start rest.stop (Clean-join source at (at + 1) (at + 1 + n) (Clean-one source at plain) rest.clean);
          stop = rest.stop;
        }
    go (Some c) some good = good

leaves_after-good : (source : List ℕ) (at n : ℕ) (bs : List ℕ) → IsUtf8 source → drop at source ≡ bs → IsCharBoundary source (at + n) → AreLeaves source (leaves_after source at n bs)
unfolding leaves_after
leaves_after-good source at n [] utf8 e start = tt
leaves_after-good source at (suc n) (b ∷ bs) utf8 e start =
    leaves_after-good source (at + 1) n bs utf8 (rest-next source bs at b e) (subst (IsCharBoundary source) (let h : at + suc n ≡ at + 1 + n = omega arith in h) start)
leaves_after-good source at zero (b ∷ bs) utf8 e start =
    let good : Good source at (cut_at source at b bs) = cut-good source bs at b e utf8 (subst (IsCharBoundary source) (add-zero at) start) in
    (good.cut, leaves_after-good source (at + 1) (cut_at source at b bs).more bs utf8 (rest-next source bs at b e) good.stop)

-- the leaves of a text may be cut
pub leaves-AreLeaves : (source : List ℕ) → IsUtf8 source → AreLeaves source (leaves source)
leaves-AreLeaves source utf8 = leaves_after-good source 0 0 source utf8 refl (IsCharBoundary-start source utf8)
