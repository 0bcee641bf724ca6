-- What the rules cut may be cut there.
use Rattle.std.proofs.Common.{List, [], ◌∷◌, length, drop, get_or, ◌≡◌, ◌≤◌, ◌<◌, ◌+◌, ◌-◌, ◌==◌, ℕ, zero, suc, refl, sym, ap, subst, ◌∙◌, arith, Bool, true, false, not, ◌&&◌, cond, Option, Some, None, add-zero, nat_le, length-drop}
use Rattle.std.specs.Option.{option_map, option_or}
use Rattle.std.specs.List.{prefix_len, slice_index}
use Rattle.std.specs.Str.{IsUtf8, IsCharBoundary}
use Rattle.std.specs.Char.{is_ascii_punctuation}
use Rattle.std.proofs.lemmas.Bool.{false≢true}
use Rattle.std.proofs.lemmas.Bool.Decides.{nat_tests}
use Rattle.std.proofs.lemmas.List.{get_or-drop, drop-drop}
use Rattle.term_text.specs.LineEnds.{ends_line}
use Rattle.md_lines.specs.Blanks.{is_blank}
use Rattle.md_leaves.specs.declared.cut.Cut.{Cut}
use Rattle.md_leaves.specs.declared.leaf.Kind.TheVariants as kind
use Rattle.md_leaves.specs.declared.leaf.Lone.TheVariants as lone
use Rattle.md_leaves.specs.declared.leaf.Mark.{Mark}
use Rattle.md_leaves.specs.Cuts.{IsText, IsCut}
use Rattle.md_leaves.specs.Code.{is_tick, run_end, code_or_text, code}
use Rattle.md_leaves.specs.Runs.{mark_of, run, run_of}
use Rattle.md_leaves.specs.Leaves.{break_of, escape, line_end, opener}
use Rattle.md_leaves.proofs.RunLemmas.{prefix_len-holds, run-place, mark_of-ascii}
use Rattle.md_leaves.proofs.PlaceLemmas.{Clean, Clean-join, Clean-one, Clean-front, IsText-clean, cut-before, cut-behind}

-- a cut at a place gives texts, and ends where the source may be cut
pub record Good (source : List ℕ) (at : ℕ) (c : Cut) : Type 0 where
  pub cut : IsCut source c.kind at (at + 1 + c.more)
  pub stop : IsCharBoundary source (at + 1 + c.more)

abbrev pub GoodIfAny : List ℕ → ℕ → Option Cut → Type 0
GoodIfAny source at None = Unit {0}
GoodIfAny source at (Some cut) = Good source at cut

pub good-or : (source : List ℕ) (at : ℕ) (first other : Option Cut) → GoodIfAny source at first → GoodIfAny source at other → GoodIfAny source at (option_or first other)
good-or source at None other left right = right
good-or source at (Some cut) other left right = left

byte-at : (source : List ℕ) (at k : ℕ) → slice_index (drop at source) k ≡ get_or source (at + k) 0
byte-at source at k = get_or-drop at source k 0

-- the last n backticks before the end of a run of n, where so many backticks stand before the bytes
record IsRunEnd (n before : ℕ) (bs : List ℕ) (k : ℕ) : Type 0 where
  room : n ≤ before + k
  ticks : (j : ℕ) → k ≤ j + n → j < k → get_or bs j 0 ≡ 96

run_end-ticks : (n before : ℕ) (bs : List ℕ) (k : ℕ) → run_end n before bs ≡ Some k → IsRunEnd n before bs k
unfolding run_end
run_end-ticks n before [] k e = go (before == n) refl e
  where
    go : (v : Bool) → (before == n) ≡ v → (cond v (Some 0) (let none : Option ℕ = None in none)) ≡ Some k → IsRunEnd n before [] k
    go true same e = let z : 0 ≡ k = cc in record { room = (let h : before ≡ n = grind (arith, nat_tests) in omega arith); ticks = λ j le lt. absurd (omega arith) }
    go false same e = absurd (let h : ⊥ = cc in h)
run_end-ticks n before (b ∷ bs) k e = go (is_tick b) (before == n) (run_end n (suc before) bs) (run_end n 0 bs) refl refl (λ m h. run_end-ticks n (suc before) bs m h) (λ m h. run_end-ticks n 0 bs m h) e
  where
    go : (tick here : Bool) (more other : Option ℕ) → is_tick b ≡ tick → (before == n) ≡ here → ((m : ℕ) → more ≡ Some m → IsRunEnd n (suc before) bs m) → ((m : ℕ) → other ≡ Some m → IsRunEnd n 0 bs m) → cond tick (option_map suc more) (cond here (Some 0) (option_map suc other)) ≡ Some k → IsRunEnd n before (b ∷ bs) k
    go true here None other tick same inner outer e = absurd (let h : ⊥ = cc in h)
    go true here (Some m) other tick same inner outer e =
        let r = inner m refl in
        let is : suc m ≡ k = cc in
        let byte : b ≡ 96 = grind (arith, nat_tests) in
        record { room = omega (arith, r.room); ticks = each m is r byte }
      where
        each : (m : ℕ) → suc m ≡ k → IsRunEnd n (suc before) bs m → b ≡ 96 → (j : ℕ) → k ≤ j + n → j < k → get_or (b ∷ bs) j 0 ≡ 96
        each m is r byte zero le lt = byte
        each m is r byte (suc j) le lt = r.ticks j (omega arith) (omega arith)
    go false true more other tick same inner outer e =
        let z : 0 ≡ k = cc in record { room = (let h : before ≡ n = grind (arith, nat_tests) in omega arith); ticks = λ j le lt. absurd (omega arith) }
    go false false more None tick same inner outer e = absurd (let h : ⊥ = cc in h)
    go false false more (Some m) tick same inner outer e =
        let r = outer m refl in
        let is : suc m ≡ k = cc in
        record { room = omega (arith, r.room); ticks = each m is r }
      where
        each : (m : ℕ) → suc m ≡ k → IsRunEnd n 0 bs m → (j : ℕ) → k ≤ j + n → j < k → get_or (b ∷ bs) j 0 ≡ 96
        each m is r zero le lt = absurd (omega (arith, r.room))
        each m is r (suc j) le lt = r.ticks j (omega arith) (omega arith)

module _ (source : List ℕ) (at : ℕ) (utf8 : IsUtf8 source) (start : IsCharBoundary source at) where
  pub escape-good : GoodIfAny source at (escape (drop at source))
  escape-good = go (not (slice_index (drop at source) 0 == 92)) (is_ascii_punctuation next) (ends_line next) refl refl
    where
      next : ℕ
      next = slice_index (drop at source) 1

      is : get_or source (at + 1) 0 ≡ next
      is = sym (byte-at source at 1)

      go : (other punctuation end : Bool) → is_ascii_punctuation next ≡ punctuation → ends_line next ≡ end → GoodIfAny source at (cond other None (cond punctuation (Some (let cut : Cut = record { kind = kind.Lone lone.Escape; more = 1 } in cut)) (cond end (Some (let cut : Cut = record { kind = kind.Lone lone.HardBreak; more = 1 } in cut)) None)))
      go true punctuation end p e = tt
      go false true end p e =
          let some : 0 < next = grind (arith, nat_tests) in
          let low : next < 128 = grind (arith, nat_tests) in
          let plain : ends_line next ≡ false = grind (arith, nat_tests) in
          let stop : IsCharBoundary source (at + 1 + 1) = cut-behind source (at + 1) next utf8 is some low in
          record { cut = IsText-clean source (at + 1) (at + 1 + 1) (omega arith) (cut-before source (at + 1) next is some low) stop (Clean-one source (at + 1) (ap ends_line is ∙ plain)); stop = stop }
      go false false true p e =
          record { cut = tt; stop = cut-behind source (at + 1) next utf8 is (let h : 0 < next = grind (arith, nat_tests) in h) (let h : next < 128 = grind (arith, nat_tests) in h) }
      go false false false p e = tt

  pub line_end-good : GoodIfAny source at (line_end (drop at source))
  line_end-good = go (ends_line (slice_index (drop at source) n)) refl
    where
      n : ℕ
      n = prefix_len is_blank (drop at source)

      break-good : (v : Bool) (m to : ℕ) → IsCut source (cond v (kind.Lone lone.HardBreak) (kind.Lone lone.SoftBreak)) m to
      break-good true m to = tt
      break-good false m to = tt

      go : (v : Bool) → ends_line (slice_index (drop at source) n) ≡ v → GoodIfAny source at (cond v (Some (let cut : Cut = record { kind = break_of n; more = n } in cut)) None)
      go true e =
          let b : ℕ = slice_index (drop at source) n in
          let is : get_or source (at + n) 0 ≡ b = sym (byte-at source at n) in
          let some : 0 < b = grind (arith, nat_tests) in
          let low : b < 128 = grind (arith, nat_tests) in
          record { cut = break-good (nat_le 2 n) at (at + 1 + n); stop = subst (IsCharBoundary source) (let h : at + n + 1 ≡ at + 1 + n = omega arith in h) (cut-behind source (at + n) b utf8 is some low) }
      go false e = tt

  pub opener-good : GoodIfAny source at (opener (drop at source))
  opener-good = go (first == 33) (next == 91) (first == 91) refl refl refl
    where
      first : ℕ
      first = slice_index (drop at source) 0

      next : ℕ
      next = slice_index (drop at source) 1

      one : (b : ℕ) → first ≡ b → get_or source at 0 ≡ b
      one b e = ap (λ k. get_or source k 0) (sym (add-zero at)) ∙ (sym (byte-at source at 0) ∙ e)

      go : (bang bracket alone : Bool) → (first == 33) ≡ bang → (next == 91) ≡ bracket → (first == 91) ≡ alone → GoodIfAny source at (cond (bang && bracket) (Some (let cut : Cut = record { kind = kind.Opener true; more = 1 } in cut)) (cond alone (Some (let cut : Cut = record { kind = kind.Opener false; more = 0 } in cut)) None))
      go true true alone e f g =
          let left : get_or source at 0 ≡ 33 = one 33 (grind (arith, nat_tests)) in
          let right : get_or source (at + 1) 0 ≡ 91 = sym (byte-at source at 1) ∙ (let h : next ≡ 91 = grind (arith, nat_tests) in h) in
          let stop : IsCharBoundary source (at + 1 + 1) = cut-behind source (at + 1) 91 utf8 right (omega arith) (omega arith) in
          record { cut = IsText-clean source at (at + 1 + 1) (omega arith) start stop (Clean-join source at (at + 1) (at + 1 + 1) (Clean-one source at (ap ends_line left)) (Clean-one source (at + 1) (ap ends_line right))); stop = stop }
      go true false true e f g = absurd (let h : ⊥ = grind (arith, nat_tests) in h)
      go true false false e f g = tt
      go false bracket true e f g =
          let left : get_or source at 0 ≡ 91 = one 91 (grind (arith, nat_tests)) in
          let stop : IsCharBoundary source (at + 1 + 0) = subst (IsCharBoundary source) (sym (add-zero (at + 1))) (cut-behind source at 91 utf8 left (omega arith) (omega arith)) in
          record { cut = IsText-clean source at (at + 1 + 0) (omega arith) start stop (subst (Clean source at) (sym (add-zero (at + 1))) (Clean-one source at (ap ends_line left))); stop = stop }
      go false bracket false e f g = tt

-- a byte in front is counted with those that are the same
first-counted : (bs : List ℕ) → 0 < length bs → 0 < prefix_len (λ x. x == slice_index bs 0) bs
first-counted [] some = absurd (omega arith)
first-counted (b ∷ bs) some = go (b == b) (let h : (b == b) ≡ true = grind (arith, nat_tests) in h)
  where
    go : (v : Bool) → v ≡ true → 0 < cond v (1 + prefix_len (λ x. x == b) bs) 0
    go true e = omega arith
    go false e = absurd (false≢true e)

-- code and runs stand within the source
module _ (source : List ℕ) (at : ℕ) (utf8 : IsUtf8 source) (start : IsCharBoundary source at) (lt : at < length source) where
  -- a stretch of one byte from here on that ends no line
  same-text : (n b : ℕ) → get_or source at 0 ≡ b → b < 128 → ends_line b ≡ false → n ≤ prefix_len (λ x. x == b) (drop at source) → IsText source at (at + n)
  same-text n b is low plain le =
      IsText-clean source at (at + n) (omega arith) start (run-place source at n b utf8 lt is low le)
      (Clean-front (λ x. x == b) source at n (λ x e. ap ends_line (let h : x ≡ b = grind (arith, nat_tests) in h) ∙ plain) le)

  first-is : get_or source at 0 ≡ slice_index (drop at source) 0
  first-is = ap (λ k. get_or source k 0) (sym (add-zero at)) ∙ sym (byte-at source at 0)

  pub code-good : GoodIfAny source at (code (drop at source))
  code-good = go (n == 0) refl (run_end n 0 (drop n (drop at source))) refl
    where
      n : ℕ
      n = prefix_len is_tick (drop at source)

      tick : 0 < n → get_or source at 0 ≡ 96
      tick some = first-is ∙ (let h : is_tick (get_or (drop at source) 0 0) ≡ true = prefix_len-holds is_tick (drop at source) 0 some in grind (arith, nat_tests))

      place : (k : ℕ) → get_or (drop n (drop at source)) k 0 ≡ get_or source (at + n + k) 0
      place k = ap (λ x. get_or x k 0) (drop-drop n at source) ∙ get_or-drop (at + n) source k 0

      found : (k : ℕ) → 0 < n → IsRunEnd n 0 (drop n (drop at source)) k → Good source at (record { kind = kind.Lone (lone.Code n); more = n - 1 + k })
      found k some r =
          let room : n ≤ k = omega (arith, r.room) in
          let opens : IsCharBoundary source (at + n) = run-place source at n 96 utf8 lt (tick some) (omega arith) (omega arith) in
          let first : get_or source (at + k) 0 ≡ 96 = ap (λ j. get_or source j 0) (let h : at + k ≡ at + n + (k - n) = omega arith in h) ∙ (sym (place (k - n)) ∙ r.ticks (k - n) (omega arith) (omega arith)) in
          let last : get_or source (at + n + (k - 1)) 0 ≡ 96 = sym (place (k - 1)) ∙ r.ticks (k - 1) (omega arith) (omega arith) in
          let inner : IsCharBoundary source (at + k) = cut-before source (at + k) 96 first (omega arith) (omega arith) in
          let outer : IsCharBoundary source (at + n + (k - 1) + 1) = cut-behind source (at + n + (k - 1)) 96 utf8 last (omega arith) (omega arith) in
          record {
            cut = record {
              order = omega arith;
              start = opens;
              stop = subst (IsCharBoundary source) (let h : at + k ≡ at + 1 + (n - 1 + k) - n = omega arith in h) inner;
            };
            stop = subst (IsCharBoundary source) (let h : at + n + (k - 1) + 1 ≡ at + 1 + (n - 1 + k) = omega arith in h) outer;
          }

      alone : 0 < n → Good source at (record { kind = kind.Lone lone.Text; more = n - 1 })
      alone some =
          let to : at + n ≡ at + 1 + (n - 1) = omega arith in
          record {
            cut = subst (IsText source at) to (same-text n 96 (tick some) (omega arith) refl (omega arith));
            stop = subst (IsCharBoundary source) to (run-place source at n 96 utf8 lt (tick some) (omega arith) (omega arith));
          }

      go : (v : Bool) → (n == 0) ≡ v → (end : Option ℕ) → run_end n 0 (drop n (drop at source)) ≡ end → GoodIfAny source at (cond v None (Some (code_or_text n end)))
      go true none end e = tt
      go false none (Some k) e = found k (grind (arith, nat_tests)) (run_end-ticks n 0 (drop n (drop at source)) k e)
      go false none None e = alone (grind (arith, nat_tests))

  pub run-good : GoodIfAny source at (run source at (drop at source))
  run-good = go (mark_of b) refl
    where
      b : ℕ
      b = slice_index (drop at source) 0

      n : ℕ
      n = prefix_len (λ x. x == b) (drop at source)

      go : (found : Option Mark) → mark_of b ≡ found → GoodIfAny source at (run_of source at (drop at source) n found)
      go None e = tt
      go (Some mark) e =
          let some : 0 < n = first-counted (drop at source) (omega (arith, length-drop at source)) in
          let low : b < 128 = mark_of-ascii b mark e in
          let plain : ends_line b ≡ false = grind (arith, nat_tests) in
          record {
            cut = λ j le. subst (IsText source at) (let h : at + (n - j) ≡ at + 1 + (n - 1) - j = omega arith in h) (same-text (n - j) b first-is low plain (omega arith));
            stop = subst (IsCharBoundary source) (let h : at + n ≡ at + 1 + (n - 1) = omega arith in h) (run-place source at n b utf8 lt first-is low (omega arith));
          }
