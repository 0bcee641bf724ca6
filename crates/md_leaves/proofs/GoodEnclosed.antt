-- What stands between two marks may be cut: math, what stands in angle brackets, and labels of footnotes.
use Rattle.std.proofs.Common.{List, drop, get_or, ◌≡◌, ◌≤◌, ◌<◌, ◌+◌, ◌-◌, ◌==◌, ◌&&◌, ℕ, refl, sym, ap, subst, ◌∙◌, arith, Bool, true, false, not, cond, Option, Some, None, add-zero, nat_lt}
use Rattle.std.specs.List.{prefix_len, slice_index, slice_range}
use Rattle.std.specs.Str.{IsUtf8, IsCharBoundary}
use Rattle.std.proofs.lemmas.Bool.Decides.{nat_tests}
use Rattle.std.proofs.lemmas.List.{get_or-drop, drop-drop}
use Rattle.term_text.specs.LineEnds.{ends_line}
use Rattle.md_leaves.specs.declared.closer.Form.{Form}
use Rattle.md_leaves.specs.declared.cut.Cut.{Cut}
use Rattle.md_leaves.specs.declared.leaf.Kind.TheVariants as kind
use Rattle.md_leaves.specs.declared.leaf.Lone.TheVariants as lone
use Rattle.md_leaves.specs.Cuts.{IsText}
use Rattle.md_leaves.specs.Angles.{angle, cut_of, in_form, is_address, is_tag}
use Rattle.md_leaves.specs.Closers.{is_in_angles}
use Rattle.md_leaves.specs.Leaves.{is_in_label, reference}
use Rattle.md_leaves.specs.Math.{display_or_text, inline_or_text, is_dollar, is_in_math, math, may_be_math, pair_before}
use Rattle.md_leaves.proofs.RunLemmas.{same_byte}
use Rattle.md_leaves.proofs.TextLemmas.{both_true}
use Rattle.md_leaves.proofs.MathLemmas.{pair_before-dollars}
use Rattle.md_leaves.proofs.PlaceLemmas.{Clean, Clean-join, Clean-one, Clean-front, IsText-clean, cut-before, cut-behind}
use Rattle.md_leaves.proofs.GoodCuts.{Good, GoodIfAny}

-- m bytes in front, n bytes behind them, and one more
record Enclosed (source : List ℕ) (at m n : ℕ) : Type 0 where
  inner : IsText source (at + m) (at + m + n)
  whole : IsText source at (at + m + n + 1)
  stop : IsCharBoundary source (at + m + n + 1)

enclosed : (source : List ℕ) (at m n c : ℕ) (p : ℕ → Bool) → IsUtf8 source → IsCharBoundary source at → IsCharBoundary source (at + m)
    → Clean source at (at + m) → ((b : ℕ) → p b ≡ true → ends_line b ≡ false) → n ≤ prefix_len p (drop (at + m) source)
    → get_or source (at + m + n) 0 ≡ c → 0 < c → c < 128 → ends_line c ≡ false → Enclosed source at m n
enclosed source at m n c p utf8 start opens clean plain le is some low one =
    let last : IsCharBoundary source (at + m + n) = cut-before source (at + m + n) c is some low in
    let stop : IsCharBoundary source (at + m + n + 1) = cut-behind source (at + m + n) c utf8 is some low in
    let inside : Clean source (at + m) (at + m + n) = Clean-front p source (at + m) n plain le in
    let end : Clean source (at + m + n) (at + m + n + 1) = Clean-one source (at + m + n) (ap ends_line is ∙ one) in
    record {
      inner = IsText-clean source (at + m) (at + m + n) (omega arith) opens last inside;
      whole = IsText-clean source at (at + m + n + 1) (omega arith) start stop
          (Clean-join source at (at + m) (at + m + n + 1) clean (Clean-join source (at + m) (at + m + n) (at + m + n + 1) inside end));
      stop = stop;
    }

module _ (source : List ℕ) (at : ℕ) (utf8 : IsUtf8 source) (start : IsCharBoundary source at) where
  abbrev bs : List ℕ
  bs = drop at source

  here : (k b : ℕ) → (slice_index bs k == b) ≡ true → get_or source (at + k) 0 ≡ b
  here k b e = sym (get_or-drop at source k 0) ∙ same_byte (slice_index bs k) b e

  first : (b : ℕ) → (slice_index bs 0 == b) ≡ true → get_or source at 0 ≡ b
  first b e = ap (λ k. get_or source k 0) (sym (add-zero at)) ∙ here 0 b e

  -- one byte in front, and so many bytes behind it up to another one
  from-one : (n b c : ℕ) (p : ℕ → Bool) → get_or source at 0 ≡ b → 0 < b → b < 128 → ends_line b ≡ false
      → ((x : ℕ) → p x ≡ true → ends_line x ≡ false) → n ≡ prefix_len p (drop 1 bs) → get_or source (at + 1 + n) 0 ≡ c
      → 0 < c → c < 128 → ends_line c ≡ false → Enclosed source at 1 n
  from-one n b c p is some low one plain count last lsome llow lone =
      enclosed source at 1 n c p utf8 start (cut-behind source at b utf8 is some low) (Clean-one source at (ap ends_line is ∙ one)) plain
      (let h : n ≡ prefix_len p (drop (at + 1) source) = count ∙ ap (prefix_len p) (drop-drop 1 at source) in omega (arith, h)) last lsome llow lone

  pub angle-good : GoodIfAny source at (angle (drop at source))
  angle-good = go (slice_index bs 0 == 60 && slice_index bs (n + 1) == 62) refl
    where
      n : ℕ
      n = prefix_len is_in_angles (drop 1 bs)

      form : Form
      form = record { from = 1; to = n + 1; all = n + 2 }

      plain : (b : ℕ) → is_in_angles b ≡ true → ends_line b ≡ false
      plain b e = grind (arith, nat_tests)

      by-lone : Enclosed source at 1 n → (a t : Bool) → GoodIfAny source at (cut_of form (cond a (Some lone.Address) (cond t (Some lone.Html) None)))
      by-lone x true t = record {
        cut = (
          subst (IsText source at) (let h : at + 1 + n + 1 ≡ at + 1 + (n + 1) = omega arith in h) x.whole,
          subst (IsText source (at + 1)) (let h : at + 1 + n ≡ at + 1 + (n + 1) - 1 = omega arith in h) x.inner,
        );
        stop = subst (IsCharBoundary source) (let h : at + 1 + n + 1 ≡ at + 1 + (n + 1) = omega arith in h) x.stop;
      }
      by-lone x false true = record {
        cut = subst (IsText source at) (let h : at + 1 + n + 1 ≡ at + 1 + (n + 1) = omega arith in h) x.whole;
        stop = subst (IsCharBoundary source) (let h : at + 1 + n + 1 ≡ at + 1 + (n + 1) = omega arith in h) x.stop;
      }
      by-lone x false false = tt

      go : (v : Bool) → (slice_index bs 0 == 60 && slice_index bs (n + 1) == 62) ≡ v → GoodIfAny source at (in_form bs (cond v (Some form) None))
      go false e = tt
      go true e =
          let two = both_true (slice_index bs 0 == 60) (slice_index bs (n + 1) == 62) e in
          let last : get_or source (at + 1 + n) 0 ≡ 62 = ap (λ k. get_or source k 0) (let h : at + 1 + n ≡ at + (n + 1) = omega arith in h) ∙ here (n + 1) 62 two.1 in
          let text : List ℕ = slice_range bs 1 (n + 1) in
          by-lone (from-one n 60 62 is_in_angles (first 60 two.0) (omega arith) (omega arith) refl plain refl last (omega arith) (omega arith) refl)
          (is_address text) (is_tag text)

  pub reference-good : GoodIfAny source at (reference (drop at source))
  reference-good = go ((slice_index bs 0 == 91 && slice_index bs 1 == 94) && (nat_lt 0 n && slice_index bs (n + 2) == 93)) refl
    where
      n : ℕ
      n = prefix_len is_in_label (drop 2 bs)

      plain : (b : ℕ) → is_in_label b ≡ true → ends_line b ≡ false
      plain b e = grind (arith, nat_tests)

      go : (v : Bool) → ((slice_index bs 0 == 91 && slice_index bs 1 == 94) && (nat_lt 0 n && slice_index bs (n + 2) == 93)) ≡ v
          → GoodIfAny source at (cond v (Some (let cut : Cut = record { kind = kind.Lone lone.FootnoteReference; more = n + 2 } in cut)) None)
      go false e = tt
      go true e =
          let halves = both_true (slice_index bs 0 == 91 && slice_index bs 1 == 94) (nat_lt 0 n && slice_index bs (n + 2) == 93) e in
          let front = both_true (slice_index bs 0 == 91) (slice_index bs 1 == 94) halves.0 in
          let back = both_true (nat_lt 0 n) (slice_index bs (n + 2) == 93) halves.1 in
          let one : get_or source at 0 ≡ 91 = first 91 front.0 in
          let two : get_or source (at + 1) 0 ≡ 94 = here 1 94 front.1 in
          let last : get_or source (at + 2 + n) 0 ≡ 93 = ap (λ k. get_or source k 0) (let h : at + 2 + n ≡ at + (n + 2) = omega arith in h) ∙ here (n + 2) 93 back.1 in
          let opens : IsCharBoundary source (at + 2) = subst (IsCharBoundary source) (let h : at + 1 + 1 ≡ at + 2 = omega arith in h) (cut-behind source (at + 1) 94 utf8 two (omega arith) (omega arith)) in
          let clean : Clean source at (at + 2) = subst (Clean source at) (let h : at + 1 + 1 ≡ at + 2 = omega arith in h)
          (Clean-join source at (at + 1) (at + 1 + 1) (Clean-one source at (ap ends_line one)) (Clean-one source (at + 1) (ap ends_line two))) in
          let x = enclosed source at 2 n 93 is_in_label utf8 start opens clean plain
          (let h : n ≡ prefix_len is_in_label (drop (at + 2) source) = ap (prefix_len is_in_label) (drop-drop 2 at source) in omega (arith, h))
          last (omega arith) (omega arith) refl in
          record {
            cut = subst (IsText source (at + 2)) (let h : at + 2 + n ≡ at + 1 + (n + 2) - 1 = omega arith in h) x.inner;
            stop = subst (IsCharBoundary source) (let h : at + 2 + n + 1 ≡ at + 1 + (n + 2) = omega arith in h) x.stop;
          }

  -- ---- math

  is-dollar : (k : ℕ) → is_dollar (slice_index bs k) ≡ true → get_or source (at + k) 0 ≡ 36
  is-dollar k e = here k 36 e

  one-dollar : get_or source at 0 ≡ 36 → Good source at (record { kind = kind.Lone lone.Text; more = 0 })
  one-dollar is =
      let stop : IsCharBoundary source (at + 1 + 0) = subst (IsCharBoundary source) (sym (add-zero (at + 1))) (cut-behind source at 36 utf8 is (omega arith) (omega arith)) in
      record {
        cut = IsText-clean source at (at + 1 + 0) (omega arith) start stop (subst (Clean source at) (sym (add-zero (at + 1))) (Clean-one source at (ap ends_line is)));
        stop = stop;
      }

  inline-good : get_or source at 0 ≡ 36 → Good source at (inline_or_text (drop 1 bs))
  inline-good is = go (is_dollar (slice_index rest n) && may_be_math n rest) refl
    where
      rest : List ℕ
      rest = drop 1 bs

      n : ℕ
      n = prefix_len is_in_math rest

      plain : (b : ℕ) → is_in_math b ≡ true → ends_line b ≡ false
      plain b e = grind (arith, nat_tests)

      go : (v : Bool) → (is_dollar (slice_index rest n) && may_be_math n rest) ≡ v
          → Good source at (cond v (let cut : Cut = record { kind = kind.Lone lone.InlineMath; more = n + 1 } in cut) (let cut : Cut = record { kind = kind.Lone lone.Text; more = 0 } in cut))
      go false e = one-dollar is
      go true e =
          let two = both_true (is_dollar (slice_index rest n)) (may_be_math n rest) e in
          let place : slice_index rest n ≡ get_or source (at + 1 + n) 0 = ap (λ x. get_or x n 0) (drop-drop 1 at source) ∙ get_or-drop (at + 1) source n 0 in
          let last : get_or source (at + 1 + n) 0 ≡ 36 = sym place ∙ same_byte (slice_index rest n) 36 two.0 in
          let x = from-one n 36 36 is_in_math is (omega arith) (omega arith) refl plain refl last (omega arith) (omega arith) refl in
          record {
            cut = subst (IsText source (at + 1)) (let h : at + 1 + n ≡ at + 1 + (n + 1) - 1 = omega arith in h) x.inner;
            stop = subst (IsCharBoundary source) (let h : at + 1 + n + 1 ≡ at + 1 + (n + 1) = omega arith in h) x.stop;
          }

  two-dollars : get_or source at 0 ≡ 36 → get_or source (at + 1) 0 ≡ 36 → Good source at (record { kind = kind.Lone lone.Text; more = 1 })
  two-dollars is next =
      let stop : IsCharBoundary source (at + 1 + 1) = cut-behind source (at + 1) 36 utf8 next (omega arith) (omega arith) in
      record {
        cut = IsText-clean source at (at + 1 + 1) (omega arith) start stop
            (Clean-join source at (at + 1) (at + 1 + 1) (Clean-one source at (ap ends_line is)) (Clean-one source (at + 1) (ap ends_line next)));
        stop = stop;
      }

  display-good : get_or source at 0 ≡ 36 → get_or source (at + 1) 0 ≡ 36 → (o : Option ℕ) → pair_before (drop 2 bs) ≡ o → Good source at (display_or_text o)
  display-good is next None e = two-dollars is next
  display-good is next (Some k) e = go (nat_lt 0 k)
    where
      place : (j : ℕ) → get_or (drop 2 bs) j 0 ≡ get_or source (at + 2 + j) 0
      place j = ap (λ x. get_or x j 0) (drop-drop 2 at source) ∙ get_or-drop (at + 2) source j 0

      go : (v : Bool) → Good source at (cond v (let cut : Cut = record { kind = kind.Lone lone.DisplayMath; more = k + 3 } in cut) (let cut : Cut = record { kind = kind.Lone lone.Text; more = 1 } in cut))
      go false = two-dollars is next
      go true =
          let two = pair_before-dollars (drop 2 bs) k e in
          let left : get_or source (at + 2 + k) 0 ≡ 36 = sym (place k) ∙ two.first in
          let right : get_or source (at + 2 + (k + 1)) 0 ≡ 36 = sym (place (k + 1)) ∙ two.second in
          record {
            cut = record {
              order = omega arith;
              start = subst (IsCharBoundary source) (let h : at + 1 + 1 ≡ at + 2 = omega arith in h) (cut-behind source (at + 1) 36 utf8 next (omega arith) (omega arith));
              stop = subst (IsCharBoundary source) (let h : at + 2 + k ≡ at + 1 + (k + 3) - 2 = omega arith in h) (cut-before source (at + 2 + k) 36 left (omega arith) (omega arith));
            };
            stop = subst (IsCharBoundary source) (let h : at + 2 + (k + 1) + 1 ≡ at + 1 + (k + 3) = omega arith in h) (cut-behind source (at + 2 + (k + 1)) 36 utf8 right (omega arith) (omega arith));
          }

  pub math-good : GoodIfAny source at (math (drop at source))
  math-good = go (is_dollar (slice_index bs 0)) (is_dollar (slice_index bs 1)) refl refl
    where
      go : (v w : Bool) → is_dollar (slice_index bs 0) ≡ v → is_dollar (slice_index bs 1) ≡ w
          → GoodIfAny source at (cond (not v) None (cond w (Some (display_or_text (pair_before (drop 2 bs)))) (Some (inline_or_text (drop 1 bs)))))
      go false w e f = tt
      go true true e f = display-good (first 36 e) (is-dollar 1 f) (pair_before (drop 2 bs)) refl
      go true false e f = inline-good (first 36 e)
