-- Each grapheme of a row takes a column at least.
use Rattle.std.proofs.Common.{ℕ, zero, suc, Bool, true, false, cond, nat_le, List, [], ◌∷◌, length, take, drop}
use Rattle.std.specs.List.{AllByRecursion}
use Rattle.term_text.specs.Graph.{Grapheme, columns, graphs}
use Rattle.term_text.specs.Text.{LineView}
use Rattle.term_text.specs.Wrap.{cut_of, skip_blanks, rest_of, unless_empty, wrap_within, wrap}
use Rattle.term_text.proofs.CutLemmas.{AllShown, AllShown-spans}

pub AllShown-graphs : (line : LineView) → AllShown (graphs line)
AllShown-graphs line = AllShown-spans line.style line.spans

pub AllShown-take : (n : ℕ) (gs : List Grapheme) → AllShown gs → AllShown (take n gs)
AllShown-take zero gs h = tt
AllShown-take (suc n) [] h = tt
AllShown-take (suc n) (g ∷ gs) h = (h.0, AllShown-take n gs h.1)

AllShown-drop : (n : ℕ) (gs : List Grapheme) → AllShown gs → AllShown (drop n gs)
AllShown-drop zero gs h = h
AllShown-drop (suc n) [] h = tt
AllShown-drop (suc n) (g ∷ gs) h = AllShown-drop n gs h.1

AllShown-skip : (gs : List Grapheme) → AllShown gs → AllShown (skip_blanks gs)
unfolding skip_blanks
AllShown-skip [] h = tt
AllShown-skip (g ∷ gs) h = go g.blank (AllShown-skip gs h.1)
  where
    go : (b : Bool) → AllShown (skip_blanks gs) → AllShown (cond b (skip_blanks gs) (g ∷ gs))
    go true k = k
    go false k = h

-- of each row
abbrev pub RowsShown : List (List Grapheme) → Type 0
RowsShown rows = AllByRecursion AllShown rows

unless_shown : (rest : List Grapheme) (rows : List (List Grapheme)) → RowsShown rows → RowsShown (unless_empty rest rows)
unless_shown [] rows h = tt
unless_shown (g ∷ gs) rows h = h

shown_step : (b : Bool) (w : ℕ) (gs : List Grapheme) (rows : List (List Grapheme)) → AllShown gs → RowsShown rows
    → RowsShown (cond b (gs ∷ []) (take (cut_of w gs) gs ∷ unless_empty (rest_of w gs) rows))
shown_step true w gs rows h k = (h, tt)
shown_step false w gs rows h k = (AllShown-take (cut_of w gs) gs h, unless_shown (rest_of w gs) rows k)

shown_within : (n w : ℕ) (gs : List Grapheme) → AllShown gs → RowsShown (wrap_within n w gs)
unfolding wrap_within
shown_within zero w gs h = (h, tt)
shown_within (suc n) w gs h =
    shown_step (nat_le (columns gs) w) w gs (wrap_within n w (rest_of w gs)) h
    (shown_within n w (rest_of w gs) (AllShown-skip (drop (cut_of w gs) gs) (AllShown-drop (cut_of w gs) gs h)))

pub RowsShown-wrap : (w : ℕ) (gs : List Grapheme) → AllShown gs → RowsShown (wrap w gs)
unfolding wrap
RowsShown-wrap w gs h = shown_within (length gs) w gs h
