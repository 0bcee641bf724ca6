-- Closers may be cut, and their destinations too.
use Rattle.std.proofs.Common.{List, [], ◌∷◌, drop, get_or, ◌≡◌, ◌≤◌, ◌<◌, ◌+◌, ◌-◌, ◌==◌, ℕ, zero, suc, refl, sym, ap, subst, ◌∙◌, arith, Bool, true, false, not, ◌&&◌, cond, Option, Some, None, add-zero, nat_lt, ◌⊎◌, inl, inr}
use Rattle.std.specs.Option.{option_and_then, option_map, option_or, unwrap_or}
use Rattle.std.specs.List.{prefix_len, slice_index}
use Rattle.std.specs.Str.{IsUtf8, IsCharBoundary}
use Rattle.std.proofs.lemmas.Bool.Decides.{nat_tests}
use Rattle.std.proofs.lemmas.List.{get_or-drop, drop-drop}
use Rattle.term_text.specs.LineEnds.{ends_line}
use Rattle.md_lines.specs.Blanks.{is_blank}
use Rattle.md_leaves.specs.declared.cut.Cut.{Cut}
use Rattle.md_leaves.specs.declared.closer.Form.{Form}
use Rattle.md_leaves.specs.declared.leaf.Kind.TheVariants as kind
use Rattle.md_leaves.specs.Cuts.{IsText}
use Rattle.md_leaves.specs.Closers.{at_bar, level_after, empty_front, balanced, plain_length, is_in_angles, is_in_title, is_quote, destination, closing, title, then_closing, ending, closer_to, closer_with, closer}
use Rattle.md_leaves.proofs.RunLemmas.{prefix_len-holds, same_byte}
use Rattle.md_leaves.proofs.PlaceLemmas.{Clean, Clean-join, Clean-one, Clean-front, IsText-clean, cut-before, cut-behind}
use Rattle.md_leaves.proofs.GoodCuts.{Good, GoodIfAny}

blank-plain : (b : ℕ) → is_blank b ≡ true → ends_line b ≡ false
blank-plain b e = grind (arith, nat_tests)

-- no line end stands in a destination without angle brackets
empty_front-none : (level n : ℕ) → empty_front level ≡ Some n → n ≡ 0
empty_front-none level n e = go (level == 0) e
  where
    go : (v : Bool) → cond v (Some 0) None ≡ Some n → n ≡ 0
    go true e = cc
    go false e = absurd (let h : ⊥ = cc in h)

balanced-plain : (level : ℕ) (bs : List ℕ) (n k : ℕ) → balanced level bs ≡ Some n → k < n → ends_line (get_or bs k 0) ≡ false
unfolding balanced
balanced-plain level [] n k e lt = absurd (let z : n ≡ 0 = empty_front-none level n e in omega arith)
balanced-plain level (b ∷ bs) n k e lt = go (at_bar (b ∷ bs)) refl (level_after level b) e k lt (λ next m j. balanced-plain next bs m j)
  where
    go : (bar : Bool) → at_bar (b ∷ bs) ≡ bar → (next : Option ℕ) → option_or (cond bar None (option_and_then (λ l. option_map suc (balanced l bs)) next)) (empty_front level) ≡ Some n → (k : ℕ) → k < n → ((l m j : ℕ) → balanced l bs ≡ Some m → j < m → ends_line (get_or bs j 0) ≡ false) → ends_line (get_or (b ∷ bs) k 0) ≡ false
    go true bar next e k lt inner = absurd (let z : n ≡ 0 = empty_front-none level n e in omega arith)
    go false bar None e k lt inner = absurd (let z : n ≡ 0 = empty_front-none level n e in omega arith)
    go false bar (Some l) e k lt inner = deeper (balanced l bs) refl e k lt
      where
        deeper : (o : Option ℕ) → balanced l bs ≡ o → option_or (option_map suc o) (empty_front level) ≡ Some n → (k : ℕ) → k < n → ends_line (get_or (b ∷ bs) k 0) ≡ false
        deeper None is e k lt = absurd (let z : n ≡ 0 = empty_front-none level n e in omega arith)
        deeper (Some m) is e zero lt = grind (arith, nat_tests)
        deeper (Some m) is e (suc j) lt = inner l m j is (let h : suc m ≡ n = cc in omega arith)

plain_length-plain : (bs : List ℕ) (k : ℕ) → k < plain_length bs → ends_line (get_or bs k 0) ≡ false
plain_length-plain bs k lt = go (balanced 0 bs) refl lt
  where
    go : (o : Option ℕ) → balanced 0 bs ≡ o → k < unwrap_or o 0 → ends_line (get_or bs k 0) ≡ false
    go None e lt = absurd (omega arith)
    go (Some n) e lt = balanced-plain 0 bs n k e lt

-- Blanks, a title and `)`, from a place on: no line end stands in them, they begin with an ASCII byte and end with `)`.
record IsEnding (source : List ℕ) (at n : ℕ) : Type 0 where
  some : 0 < n
  first : (get_or source at 0 ≡ 41) ⊎ (is_blank (get_or source at 0) ≡ true)
  last : get_or source (at + (n - 1)) 0 ≡ 41
  clean : Clean source at (at + n)

rest-is : (source : List ℕ) (at n : ℕ) → drop n (drop at source) ≡ drop (at + n) source
rest-is source at n = drop-drop n at source

byte-is : (source : List ℕ) (at k b : ℕ) → slice_index (drop at source) k ≡ b → get_or source (at + k) 0 ≡ b
byte-is source at k b e = sym (get_or-drop at source k 0) ∙ e

blank-in-front : (source : List ℕ) (at : ℕ) → 0 < prefix_len is_blank (drop at source) → is_blank (get_or source at 0) ≡ true
blank-in-front source at some =
    ap (λ k. is_blank (get_or source k 0)) (sym (add-zero at)) ∙ (ap is_blank (sym (get_or-drop at source 0 0)) ∙ prefix_len-holds is_blank (drop at source) 0 some)

closing-good : (source : List ℕ) (at n : ℕ) → closing (drop at source) ≡ Some n → IsEnding source at n
closing-good source at n e = go (slice_index (drop at source) m == 41) refl e
  where
    m : ℕ
    m = prefix_len is_blank (drop at source)

    front : (k : ℕ) → m ≡ k → get_or source (at + m) 0 ≡ 41 → (get_or source at 0 ≡ 41) ⊎ (is_blank (get_or source at 0) ≡ true)
    front zero e last = inl (ap (λ j. get_or source j 0) (let h : at ≡ at + m = omega arith in h) ∙ last)
    front (suc k) e last = inr (blank-in-front source at (omega arith))

    go : (v : Bool) → (slice_index (drop at source) m == 41) ≡ v → cond v (Some (m + 1)) None ≡ Some n → IsEnding source at n
    go true is e =
        let count : m + 1 ≡ n = cc in
        let byte : get_or source (at + m) 0 ≡ 41 = byte-is source at m 41 (same_byte (slice_index (drop at source) m) 41 is) in
        record {
          some = omega arith;
          first = front m refl byte;
          last = ap (λ j. get_or source j 0) (let h : at + (n - 1) ≡ at + m = omega arith in h) ∙ byte;
          clean = subst (Clean source at) (let h : at + m + 1 ≡ at + n = omega arith in h)
              (Clean-join source at (at + m) (at + m + 1) (Clean-front is_blank source at m blank-plain (omega arith)) (Clean-one source (at + m) (ap ends_line byte)));
        }
    go false is e = absurd (let h : ⊥ = cc in h)

title-good : (source : List ℕ) (at n : ℕ) → is_quote (slice_index (drop at source) 0) ≡ true → title (drop at source) ≡ Some n → Clean source at (at + n)
title-good source at n quoted e = go (slice_index (drop at source) (m + 1) == quote) refl e
  where
    quote : ℕ
    quote = slice_index (drop at source) 0

    m : ℕ
    m = prefix_len (is_in_title quote) (drop 1 (drop at source))

    inner-plain : (b : ℕ) → is_in_title quote b ≡ true → ends_line b ≡ false
    inner-plain b e = grind (arith, nat_tests)

    quote-plain : ends_line quote ≡ false
    quote-plain = grind (arith, nat_tests)

    go : (v : Bool) → (slice_index (drop at source) (m + 1) == quote) ≡ v → cond v (Some (m + 2)) None ≡ Some n → Clean source at (at + n)
    go true is e =
        let count : m + 2 ≡ n = cc in
        let first : get_or source at 0 ≡ quote = ap (λ k. get_or source k 0) (sym (add-zero at)) ∙ byte-is source at 0 quote refl in
        let last : get_or source (at + (m + 1)) 0 ≡ quote = byte-is source at (m + 1) quote (same_byte (slice_index (drop at source) (m + 1)) quote is) in
        let inner : Clean source (at + 1) (at + 1 + m) = Clean-front (is_in_title quote) source (at + 1) m inner-plain (let h : m ≡ prefix_len (is_in_title quote) (drop (at + 1) source) = ap (prefix_len (is_in_title quote)) (rest-is source at 1) in omega arith) in
        let there : at + (m + 1) ≡ at + 1 + m = omega arith in
        subst (Clean source at) (let h : at + 1 + m + 1 ≡ at + n = omega arith in h)
        (Clean-join source at (at + 1) (at + 1 + m + 1) (Clean-one source at (ap ends_line first ∙ quote-plain))
        (Clean-join source (at + 1) (at + 1 + m) (at + 1 + m + 1) inner
        (Clean-one source (at + 1 + m) (ap (λ k. ends_line (get_or source k 0)) (sym there) ∙ (ap ends_line last ∙ quote-plain)))))
    go false is e = absurd (let h : ⊥ = cc in h)

-- what follows a clean stretch that begins with a blank
IsEnding-behind : (source : List ℕ) (at m n total : ℕ) → m + n ≡ total → 0 < m → is_blank (get_or source at 0) ≡ true → Clean source at (at + m) → IsEnding source (at + m) n → IsEnding source at total
IsEnding-behind source at m n total count some blank clean e =
    let more : 0 < n = e.some in
    record {
      some = omega arith;
      first = inr blank;
      last = ap (λ j. get_or source j 0) (let h : at + (total - 1) ≡ at + m + (n - 1) = omega arith in h) ∙ e.last;
      clean = subst (Clean source at) (let h : at + m + n ≡ at + total = omega arith in h) (Clean-join source at (at + m) (at + m + n) clean e.clean);
    }

ending-good : (source : List ℕ) (at n : ℕ) → ending (drop at source) ≡ Some n → IsEnding source at n
ending-good source at n e = go (nat_lt 0 m) (is_quote (slice_index (drop at source) m)) refl refl e
  where
    m : ℕ
    m = prefix_len is_blank (drop at source)

    moved : drop m (drop at source) ≡ drop (at + m) source
    moved = rest-is source at m

    closed : (t k : ℕ) → 0 < m → is_quote (slice_index (drop at source) m) ≡ true → title (drop (at + m) source) ≡ Some t → closing (drop t (drop (at + m) source)) ≡ Some k → m + (t + k) ≡ n → IsEnding source at n
    closed t k some quoted is behind count =
        let quote : is_quote (slice_index (drop (at + m) source) 0) ≡ true = ap is_quote (get_or-drop (at + m) source 0 0 ∙ (ap (λ j. get_or source j 0) (add-zero (at + m)) ∙ sym (get_or-drop at source m 0))) ∙ quoted in
        let clean : Clean source at (at + m) = Clean-front is_blank source at m blank-plain (omega arith) in
        let inner : Clean source (at + m) (at + m + t) = title-good source (at + m) t quote is in
        let place : at + m + t ≡ at + (m + t) = omega arith in
        let last : IsEnding source (at + (m + t)) k = subst (λ j. IsEnding source j k) place (closing-good source (at + m + t) k (ap closing (sym (rest-is source (at + m) t)) ∙ behind)) in
        IsEnding-behind source at (m + t) k n (omega arith) (omega arith) (blank-in-front source at some)
        (subst (Clean source at) place (Clean-join source at (at + m) (at + m + t) clean inner)) last

    titled : 0 < m → is_quote (slice_index (drop at source) m) ≡ true → (o : Option ℕ) → title (drop (at + m) source) ≡ o → option_map (λ k. m + k) (then_closing o (drop (at + m) source)) ≡ Some n → IsEnding source at n
    titled some quoted None is e = absurd (let h : ⊥ = cc in h)
    titled some quoted (Some t) is e = after (closing (drop t (drop (at + m) source))) refl e
      where
        after : (o : Option ℕ) → closing (drop t (drop (at + m) source)) ≡ o → option_map (λ k. m + k) (option_map (λ k. t + k) o) ≡ Some n → IsEnding source at n
        after None behind e = absurd (let h : ⊥ = cc in h)
        after (Some k) behind e = closed t k some quoted is behind (let h : m + (t + k) ≡ n = cc in h)

    go : (many quote : Bool) → nat_lt 0 m ≡ many → is_quote (slice_index (drop at source) m) ≡ quote → cond (many && quote) (option_map (λ k. m + k) (then_closing (title (drop m (drop at source))) (drop m (drop at source)))) (closing (drop at source)) ≡ Some n → IsEnding source at n
    go true true some quoted e =
        titled (grind (arith, nat_tests)) quoted (title (drop (at + m) source)) refl
        (ap (λ x. option_map (λ k. m + k) (then_closing (title x) x)) (sym moved) ∙ e)
    go true false some quoted e = closing-good source at n e
    go false quote some quoted e = closing-good source at n e

-- a destination at a place: no line end stands in it, and it may be cut out where what follows it may be
record IsForm (source : List ℕ) (at : ℕ) (form : Form) : Type 0 where
  order : form.from ≤ form.to
  fits : form.to ≤ form.all
  clean : Clean source at (at + form.all)
  start : IsCharBoundary source at → IsCharBoundary source (at + form.from)
  stop : IsCharBoundary source (at + form.all) → IsCharBoundary source (at + form.to)

destination-good : (source : List ℕ) (at : ℕ) → IsUtf8 source → IsForm source at (destination (drop at source))
destination-good source at utf8 = go (slice_index (drop at source) 0 == 60) (slice_index (drop at source) (n + 1) == 62) refl refl
  where
    n : ℕ
    n = prefix_len is_in_angles (drop 1 (drop at source))

    inner-plain : (b : ℕ) → is_in_angles b ≡ true → ends_line b ≡ false
    inner-plain b e = grind (arith, nat_tests)

    plain : ℕ
    plain = plain_length (drop at source)

    bare : IsForm source at (record { from = 0; to = plain; all = plain })
    bare = record {
      order = omega arith;
      fits = omega arith;
      clean = λ k le lt. subst (λ j. ends_line (get_or source j 0) ≡ false) (let h : at + (k - at) ≡ k = omega arith in h)
          (ap ends_line (sym (get_or-drop at source (k - at) 0)) ∙ plain_length-plain (drop at source) (k - at) (omega arith));
      start = λ b. subst (IsCharBoundary source) (sym (add-zero at)) b;
      stop = λ b. b;
    }

    go : (opens closes : Bool) → (slice_index (drop at source) 0 == 60) ≡ opens → (slice_index (drop at source) (n + 1) == 62) ≡ closes → IsForm source at (unwrap_or (cond (opens && closes) (Some (let form : Form = record { from = 1; to = n + 1; all = n + 2 } in form)) None) (record { from = 0; to = plain; all = plain }))
    go true true o c =
        let first : get_or source at 0 ≡ 60 = ap (λ k. get_or source k 0) (sym (add-zero at)) ∙ byte-is source at 0 60 (same_byte (slice_index (drop at source) 0) 60 o) in
        let last : get_or source (at + (n + 1)) 0 ≡ 62 = byte-is source at (n + 1) 62 (same_byte (slice_index (drop at source) (n + 1)) 62 c) in
        let there : at + (n + 1) ≡ at + 1 + n = omega arith in
        let inner : Clean source (at + 1) (at + 1 + n) = Clean-front is_in_angles source (at + 1) n inner-plain (let h : n ≡ prefix_len is_in_angles (drop (at + 1) source) = ap (prefix_len is_in_angles) (rest-is source at 1) in omega arith) in
        record {
          order = omega arith;
          fits = omega arith;
          clean = subst (Clean source at) (let h : at + 1 + n + 1 ≡ at + (n + 2) = omega arith in h)
              (Clean-join source at (at + 1) (at + 1 + n + 1) (Clean-one source at (ap ends_line first))
              (Clean-join source (at + 1) (at + 1 + n) (at + 1 + n + 1) inner
              (Clean-one source (at + 1 + n) (ap (λ k. ends_line (get_or source k 0)) (sym there) ∙ ap ends_line last))));
          start = λ b. cut-behind source at 60 utf8 first (omega arith) (omega arith);
          stop = λ b. cut-before source (at + (n + 1)) 62 last (omega arith) (omega arith);
        }
    go true false o c = bare
    go false closes o c = bare

module _ (source : List ℕ) (at : ℕ) (utf8 : IsUtf8 source) (start : IsCharBoundary source at) where
  -- a closer without destination
  bracket-good : get_or source at 0 ≡ 93 → Good source at (record { kind = kind.Closer None; more = 0 })
  bracket-good is =
      let to : at + 1 ≡ at + 1 + 0 = omega arith in
      let stop : IsCharBoundary source (at + 1) = cut-behind source at 93 utf8 is (omega arith) (omega arith) in
      record {
        cut = (subst (IsText source at) to (IsText-clean source at (at + 1) (omega arith) start stop (Clean-one source at (ap ends_line is))), tt);
        stop = subst (IsCharBoundary source) to stop;
      }

  -- one with a destination, from a place on
  linked-good : (before : ℕ) (form : Form) (n : ℕ) → Clean source at (at + 1 + before) → IsCharBoundary source (at + 1 + before) → IsForm source (at + 1 + before) form → IsEnding source (at + 1 + before + form.all) n → Good source at (closer_to at before form (Some n))
  linked-good before form n clean from d e =
      let some : 0 < n = e.some in
      let order : form.from ≤ form.to = d.order in
      let fits : form.to ≤ form.all = d.fits in
      let p : ℕ = at + 1 + before in
      let whole : p + form.all + n ≡ at + 1 + (before + form.all + n) = omega arith in
      let middle : IsCharBoundary source (p + form.all) = first (p + form.all) e.first in
      let stop : IsCharBoundary source (p + form.all + (n - 1) + 1) = cut-behind source (p + form.all + (n - 1)) 41 utf8 e.last (omega arith) (omega arith) in
      let end : IsCharBoundary source (at + 1 + (before + form.all + n)) = subst (IsCharBoundary source) (let h : p + form.all + (n - 1) + 1 ≡ at + 1 + (before + form.all + n) = omega arith in h) stop in
      let all : Clean source at (at + 1 + (before + form.all + n)) = subst (Clean source at) whole (Clean-join source at p (p + form.all + n) clean (Clean-join source p (p + form.all) (p + form.all + n) d.clean e.clean)) in
      record {
        cut = (
          IsText-clean source at (at + 1 + (before + form.all + n)) (omega arith) start end all,
          IsText-clean source (p + form.from) (p + form.to) (omega arith) (d.start from) (d.stop middle) (λ k le lt. d.clean k (omega arith) (omega arith)),
        );
        stop = end;
      }
    where
      first : (k : ℕ) → (get_or source k 0 ≡ 41) ⊎ (is_blank (get_or source k 0) ≡ true) → IsCharBoundary source k
      first k (inl is) = cut-before source k 41 is (omega arith) (omega arith)
      first k (inr is) = cut-before source k (get_or source k 0) refl (grind (arith, nat_tests)) (grind (arith, nat_tests))

  pub closer-good : GoodIfAny source at (closer at (drop at source))
  closer-good = go (slice_index (drop at source) 0 == 93) (slice_index (drop at source) 1 == 40) refl refl
    where
      m : ℕ
      m = prefix_len is_blank (drop 2 (drop at source))

      before : ℕ
      before = 1 + m

      bracket : (slice_index (drop at source) 0 == 93) ≡ true → get_or source at 0 ≡ 93
      bracket e = ap (λ k. get_or source k 0) (sym (add-zero at)) ∙ byte-is source at 0 93 (same_byte (slice_index (drop at source) 0) 93 e)

      p : ℕ
      p = at + 1 + before

      moved : drop (1 + before) (drop at source) ≡ drop p source
      moved = rest-is source at (1 + before) ∙ ap (λ k. drop k source) (let h : at + (1 + before) ≡ p = omega arith in h)

      paren : (slice_index (drop at source) 1 == 40) ≡ true → get_or source (at + 1) 0 ≡ 40
      paren e = byte-is source at 1 40 (same_byte (slice_index (drop at source) 1) 40 e)

      clean : get_or source at 0 ≡ 93 → get_or source (at + 1) 0 ≡ 40 → Clean source at p
      clean first next =
          subst (Clean source at) (let h : at + 2 + m ≡ p = omega arith in h)
          (Clean-join source at (at + 1) (at + 2 + m) (Clean-one source at (ap ends_line first))
          (Clean-join source (at + 1) (at + 2) (at + 2 + m)
          (subst (Clean source (at + 1)) (let h : at + 1 + 1 ≡ at + 2 = omega arith in h) (Clean-one source (at + 1) (ap ends_line next)))
          (Clean-front is_blank source (at + 2) m blank-plain (let h : m ≡ prefix_len is_blank (drop (at + 2) source) = ap (prefix_len is_blank) (rest-is source at 2) in omega arith))))

      from : (k : ℕ) → m ≡ k → get_or source (at + 1) 0 ≡ 40 → IsCharBoundary source p
      from zero none next = subst (IsCharBoundary source) (let h : at + 1 + 1 ≡ p = omega arith in h) (cut-behind source (at + 1) 40 utf8 next (omega arith) (omega arith))
      from (suc k) some next =
          let b : ℕ = get_or source (at + 2 + k) 0 in
          let blank : is_blank b ≡ true = ap is_blank (sym (ap (λ x. get_or x k 0) (rest-is source at 2) ∙ get_or-drop (at + 2) source k 0)) ∙ prefix_len-holds is_blank (drop 2 (drop at source)) k (omega arith) in
          subst (IsCharBoundary source) (let h : at + 2 + k + 1 ≡ p = omega arith in h) (cut-behind source (at + 2 + k) b utf8 refl (grind (arith, nat_tests)) (grind (arith, nat_tests)))

      with-good : get_or source at 0 ≡ 93 → get_or source (at + 1) 0 ≡ 40 → (o : Option ℕ) → ending (drop (destination (drop p source)).all (drop p source)) ≡ o → Good source at (closer_to at before (destination (drop p source)) o)
      with-good first next None e = bracket-good first
      with-good first next (Some n) e =
          let form : Form = destination (drop p source) in
          linked-good before form n (clean first next) (from m refl next) (destination-good source p utf8)
          (ending-good source (p + form.all) n (ap ending (sym (rest-is source p form.all)) ∙ e))

      go : (here linked : Bool) → (slice_index (drop at source) 0 == 93) ≡ here → (slice_index (drop at source) 1 == 40) ≡ linked → GoodIfAny source at (cond (not here) None (cond linked (Some (closer_with at before (drop (1 + before) (drop at source)))) (Some (let cut : Cut = record { kind = kind.Closer None; more = 0 } in cut))))
      go true true e l =
          subst (λ x. Good source at (closer_with at before x)) (sym moved)
          (with-good (bracket e) (paren l) (ending (drop (destination (drop p source)).all (drop p source))) refl)
      go true false e l = bracket-good (bracket e)
      go false linked e l = tt
