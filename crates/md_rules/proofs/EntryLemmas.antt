-- The lines of a definition list, entry by entry.
use Rattle.std.proofs.Common.{List, [], ◌∷◌, length, drop, get_or, ◌≡◌, ◌≤◌, ◌<◌, ◌+◌, ℕ, zero, suc, refl, sym, ap, ◌∙◌, arith, true, false, Bool, cond, Some, None}
use Rattle.std.proofs.lemmas.List.{drop_more}
use Rattle.std.proofs.Math.ListN.{drop_of_length-le}
use Rattle.md_lines.specs.Lines.{LineText, is_empty}
use Rattle.md_rules.specs.Code.{if_more}
use Rattle.md_rules.specs.Definitions.{describes}
use Rattle.md_rules.specs.Entries.{entries_more, entry_more, next_entry, title_at, with_entry}
use Rattle.md_rules.specs.Starts.{block_start}
use Rattle.md_rules.specs.declared.start.BlockStart.{BlockStart}
use Rattle.md_rules.specs.declared.start.BlockStart.TheVariants as start
use Rattle.md_rules.specs.declared.start.Items.TheVariants.{All}
use Rattle.md_rules.specs.declared.entry.Entry.{Entry}
use Rattle.md_rules.specs.declared.entry.Entry.TheVariants.{Description}
use Rattle.md_rules.proofs.Slices.{drop-drop}
use Rattle.md_rules.proofs.CodeLemmas.{with_taken, with_taken-empty}
use Rattle.md_rules.proofs.ListLemmas.{with_taken-item, with_taken-same}

title_at-no_description : (s : BlockStart) → title_at s ≡ Some Description → ⊥
title_at-no_description start.Definitions h = cc
title_at-no_description s h = cc

-- a description is an entry at its line alone
pub next_entry-description : (line : LineText) (later : List LineText) → next_entry line later ≡ Some Description → describes line ≡ true
next_entry-description line later h = go (describes line) h
  where
    go : (v : Bool) → cond v (Some Description) (title_at (block_start true All line later)) ≡ Some Description → v ≡ true
    go true h = refl
    go false h = absurd (title_at-no_description (block_start true All line later) h)

-- the lines of the entry before come first
entries_more-skip : (n : ℕ) (lines : List LineText) → n ≤ length lines → entries_more n lines ≡ n + entries_more 0 (drop n lines)
unfolding entries_more
entries_more-skip zero lines le = omega arith
entries_more-skip (suc n) [] le = absurd (omega arith)
entries_more-skip (suc n) (line ∷ later) le = let h = entries_more-skip n later (omega arith) in omega arith

entries_more-empty : (line : LineText) (later : List LineText) → is_empty line ≡ true → entries_more 0 (line ∷ later) ≡ if_more (entries_more 0 later)
unfolding entries_more
entries_more-empty line later e = rw e refl

entries_more-entry : (line : LineText) (later : List LineText) (entry : Entry) → is_empty line ≡ false → next_entry line later ≡ Some entry → entries_more 0 (line ∷ later) ≡ suc (entries_more (entry_more entry line later) later)
unfolding entries_more
entries_more-entry line later entry e f = rw e (ap (λ x. with_entry x (λ y. entries_more (entry_more y line later) later)) f)

entries_more-none : (line : LineText) (later : List LineText) → is_empty line ≡ false → next_entry line later ≡ None → entries_more 0 (line ∷ later) ≡ 0
unfolding entries_more
entries_more-none line later e f = rw e (ap (λ x. with_entry x (λ y. entries_more (entry_more y line later) later)) f)

pub entries-start : (lines : List LineText) → with_taken 0 0 (entries_more 0 lines) ≡ entries_more 0 lines
entries-start lines = let h = with_taken-same 0 (entries_more 0 lines) in omega (arith, h)

-- an empty line is passed over
pub empty-step : (lines : List LineText) (taken at : ℕ) (d : LineText) (all : ℕ) → at < length lines → is_empty (get_or lines at d) ≡ true → with_taken taken at (entries_more 0 (drop at lines)) ≡ all → with_taken taken (at + 1) (entries_more 0 (drop (at + 1) lines)) ≡ all
empty-step lines taken at d all lt e h =
    let here : entries_more 0 (drop at lines) ≡ if_more (entries_more 0 (drop (at + 1) lines)) = ap (entries_more 0) (drop_more lines at d lt) ∙ entries_more-empty (get_or lines at d) (drop (at + 1) lines) e in
    sym (with_taken-empty taken at (entries_more 0 (drop (at + 1) lines))) ∙ (ap (with_taken taken at) (sym here) ∙ h)

-- an entry is taken with its further lines
pub entry-step : (lines later : List LineText) (taken at own : ℕ) (line : LineText) (entry : Entry) (all : ℕ) → at < length lines → line ≡ get_or lines at line → later ≡ drop (at + 1) lines → is_empty line ≡ false → next_entry line later ≡ Some entry → own ≡ entry_more entry line later → own ≤ length later → with_taken taken at (entries_more 0 (drop at lines)) ≡ all → with_taken (at + 1 + own) (at + 1 + own) (entries_more 0 (drop (at + 1 + own) lines)) ≡ all
entry-step lines later taken at own line entry all lt e l f g o le h =
    let here : drop at lines ≡ line ∷ later = drop_more lines at line lt ∙ (ap (λ x. x ∷ drop (at + 1) lines) (sym e) ∙ ap (λ x. line ∷ x) (sym l)) in
    let count : entries_more 0 (drop at lines) ≡ suc (own + entries_more 0 (drop own later)) = ap (entries_more 0) here ∙ (entries_more-entry line later entry f g ∙ (ap (λ n. suc (entries_more n later)) (sym o) ∙ ap suc (entries_more-skip own later le))) in
    let rest : drop (at + 1 + own) lines ≡ drop own later = drop-drop own (at + 1) lines ∙ ap (drop own) (sym l) in
    ap (λ x. with_taken (at + 1 + own) (at + 1 + own) (entries_more 0 x)) rest
    ∙ (sym (with_taken-item taken at own (entries_more 0 (drop own later))) ∙ (ap (with_taken taken at) (sym count) ∙ h))

pub other-stop : (lines later : List LineText) (taken at : ℕ) (line : LineText) (all : ℕ) → at < length lines → line ≡ get_or lines at line → later ≡ drop (at + 1) lines → is_empty line ≡ false → next_entry line later ≡ None → with_taken taken at (entries_more 0 (drop at lines)) ≡ all → taken ≡ all
other-stop lines later taken at line all lt e l f g h =
    let here : drop at lines ≡ line ∷ later = drop_more lines at line lt ∙ (ap (λ x. x ∷ drop (at + 1) lines) (sym e) ∙ ap (λ x. line ∷ x) (sym l)) in
    let none : entries_more 0 (drop at lines) ≡ 0 = ap (entries_more 0) here ∙ entries_more-none line later f g in
    ap (with_taken taken at) (sym none) ∙ h

pub end-stop : (lines : List LineText) (taken at : ℕ) (all : ℕ) → length lines ≤ at → with_taken taken at (entries_more 0 (drop at lines)) ≡ all → taken ≡ all
unfolding entries_more
end-stop lines taken at all le h =
    let none : drop at lines ≡ [] = drop_of_length-le lines le in
    ap (λ x. with_taken taken at (entries_more 0 x)) (sym none) ∙ h
