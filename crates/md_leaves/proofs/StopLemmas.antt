-- The parentheses that no other closes, read from the right.
use Rattle.std.proofs.Common.{List, [], ◌∷◌, ◌++◌, length, drop, get_or, ◌≡◌, ◌≤◌, ◌<◌, ◌+◌, ◌-◌, ◌==◌, ℕ, suc, refl, sym, ap, ◌∙◌, arith, Bool, true, false, cond, Some, None, subst, nat_lt, length-append}
use Rattle.std.specs.List.{All}
use Rattle.std.specs.Option.{option_and_then, option_map, option_or}
use Rattle.std.proofs.lemmas.Bool.Decides.{nat_tests}
use Rattle.std.proofs.lemmas.List.{get_or_append_left, get_or_push}
use Rattle.md_leaves.specs.Ahead.{IsStop, closers_before}
use Rattle.md_leaves.specs.Closers.{at_bar, balanced, empty_front, level_after}
use Rattle.md_leaves.proofs.PlainLemmas.{balanced-at, balanced-bar, balanced-past}

-- no front from here on closes more than so many parentheses
abbrev pub IsShort : List ℕ → ℕ → ℕ → Type 0
IsShort source at closers = (level : ℕ) → closers < level → balanced level (drop at source) ≡ None

open-none : (level : ℕ) → 0 < level → empty_front level ≡ None
open-none level some = ap (λ v. cond v (Some 0) None) (let h : (level == 0) ≡ false = grind (arith, nat_tests) in h)

pub IsShort-end : (source : List ℕ) (at : ℕ) → length source ≤ at → IsShort source at 0
IsShort-end source at le level some = balanced-past source at level le ∙ open-none level some

pub IsShort-bar : (source : List ℕ) (at : ℕ) → at < length source → at_bar (drop at source) ≡ true → IsShort source at 0
IsShort-bar source at lt bar level some = balanced-bar source at level lt bar ∙ open-none level some

-- one more byte
balanced-none : (source : List ℕ) (at level next : ℕ) → at < length source → at_bar (drop at source) ≡ false → level_after level (get_or source at 0) ≡ Some next → balanced next (drop (at + 1) source) ≡ None → balanced level (drop at source) ≡ empty_front level
balanced-none source at level next lt clear is none =
    balanced-at source at level lt clear
    ∙ (ap (λ o. option_or (option_and_then (λ n. option_map suc (balanced n (drop (at + 1) source))) o) (empty_front level)) is
    ∙ ap (λ o. option_or (option_map suc o) (empty_front level)) none)

-- how many are open after a byte, where so many closers were left for it and so many are left before it
pub record IsDeeper (level next closers : ℕ) (b : ℕ) : Type 0 where
  pub is : level_after level b ≡ Some next
  pub far : closers < next

deeper : (level closers before b : ℕ) → closers_before closers b ≡ Some before → before < level → (next : ℕ) × IsDeeper level next closers b
deeper level closers before b e lt = go (b == 40) (b == 41) refl refl e
  where
    opened : (v : Bool) → (closers == 0) ≡ v → (b == 40) ≡ true → cond v None (Some (closers - 1)) ≡ Some before → (next : ℕ) × IsDeeper level next closers b
    opened true none here e = absurd (let h : ⊥ = cc in h)
    opened false some here e =
        let is : closers - 1 ≡ before = cc in
        (level + 1, record { is = ap (λ v. cond v (Some (level + 1)) (cond (b == 41) (cond (level == 0) None (Some (level - 1))) (Some level))) here; far = grind (arith, nat_tests) })

    go : (opens closes : Bool) → (b == 40) ≡ opens → (b == 41) ≡ closes → cond opens (cond (closers == 0) None (Some (closers - 1))) (cond closes (Some (closers + 1)) (Some closers)) ≡ Some before → (next : ℕ) × IsDeeper level next closers b
    go true closes o c e = opened (closers == 0) refl o e
    go false true o c e =
        let is : closers + 1 ≡ before = cc in
        let open_one : (level == 0) ≡ false = grind (arith, nat_tests) in (
          level - 1,
          record {
            is = ap (λ v. cond v (Some (level + 1)) (cond (b == 41) (cond (level == 0) None (Some (level - 1))) (Some level))) o
                ∙ (ap (λ v. cond v (cond (level == 0) None (Some (level - 1))) (Some level)) c ∙ ap (λ v. cond v None (Some (level - 1))) open_one);
            far = omega arith;
          },
        )
    go false false o c e =
        let is : closers ≡ before = cc in (
          level,
          record {
            is = ap (λ v. cond v (Some (level + 1)) (cond (b == 41) (cond (level == 0) None (Some (level - 1))) (Some level))) o
                ∙ ap (λ v. cond v (cond (level == 0) None (Some (level - 1))) (Some level)) c;
            far = omega arith;
          },
        )

pub IsShort-next : (source : List ℕ) (at closers before : ℕ) → at < length source → at_bar (drop at source) ≡ false → closers_before closers (get_or source at 0) ≡ Some before → IsShort source (at + 1) closers → IsShort source at before
IsShort-next source at closers before lt clear is short level far =
    let d = deeper level closers before (get_or source at 0) is far in
    balanced-none source at level d.0 lt clear d.1.is (short d.0 d.1.far) ∙ open-none level (omega arith)

-- a parenthesis that none is left for
pub IsStop-open : (source : List ℕ) (at closers : ℕ) → at < length source → at_bar (drop at source) ≡ false → closers_before closers (get_or source at 0) ≡ None → IsShort source (at + 1) closers → IsStop source at
IsStop-open source at closers lt clear is short level =
    balanced-none source at level (level + 1) lt clear (opens (get_or source at 0) is) (short (level + 1) (none (get_or source at 0) is))
  where
    none : (b : ℕ) → closers_before closers b ≡ None → closers < level + 1
    none b e = go (b == 40) (b == 41) (closers == 0) refl e
      where
        go : (opens closes zeroes : Bool) → (closers == 0) ≡ zeroes → cond opens (cond zeroes None (Some (closers - 1))) (cond closes (Some (closers + 1)) (Some closers)) ≡ None → closers < level + 1
        go true closes true z e = grind (arith, nat_tests)
        go true closes false z e = absurd (let h : ⊥ = cc in h)
        go false true zeroes z e = absurd (let h : ⊥ = cc in h)
        go false false zeroes z e = absurd (let h : ⊥ = cc in h)

    opens : (b : ℕ) → closers_before closers b ≡ None → level_after level b ≡ Some (level + 1)
    opens b e = go (b == 40) (b == 41) e
      where
        go : (opens closes : Bool) → cond opens (cond (closers == 0) None (Some (closers - 1))) (cond closes (Some (closers + 1)) (Some closers)) ≡ None → cond opens (Some (level + 1)) (cond closes (cond (level == 0) None (Some (level - 1))) (Some level)) ≡ Some (level + 1)
        go true closes e = refl
        go false true e = absurd (let h : ⊥ = cc in h)
        go false false e = absurd (let h : ⊥ = cc in h)

pub IsStop-past : (source : List ℕ) (at : ℕ) → length source ≤ at → IsStop source at
IsStop-past source at le level = balanced-past source at level le

pub IsShort-stop : (source : List ℕ) (at closers : ℕ) → IsStop source at → IsShort source at closers
IsShort-stop source at closers is level far = is level ∙ open-none level (omega arith)

pub few : (closers before b : ℕ) → closers_before closers b ≡ Some before → before ≤ closers + 1
few closers before b e = grind (arith, nat_tests)

pub All-pushed : (P : ℕ → Type 0) (xs new : List ℕ) (x : ℕ) → new ≡ xs ++ x ∷ [] → All P xs → P x → All P new
All-pushed P xs new x is all here = subst (All P) (sym is) (λ k d lt. go k d lt (nat_lt k (length xs)) refl)
  where
    go : (k d : ℕ) → k < length (xs ++ x ∷ []) → (v : Bool) → nat_lt k (length xs) ≡ v → P (get_or (xs ++ x ∷ []) k d)
    go k d lt true e = let inside : k < length xs = grind (arith, nat_tests) in subst P (sym (get_or_append_left xs (x ∷ []) d k inside)) (all k d inside)
    go k d lt false e =
        let past : length xs ≤ k = grind (arith, nat_tests) in
        let last : length xs ≡ k = omega (arith, length-append xs (x ∷ [])) in
        subst P (sym (get_or_push xs x d k last)) here
