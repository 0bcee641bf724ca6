-- Closers in front of bytes.
use Rattle.std.proofs.Common.{List, drop, ◌≡◌, ◌+◌, ◌==◌, ℕ, ap, sym, ◌∙◌, arith, not, cond, Some, None}
use Rattle.std.specs.List.{prefix_len, slice_index}
use Rattle.std.proofs.lemmas.List.{drop-drop}
use Rattle.md_lines.specs.Blanks.{is_blank}
use Rattle.md_leaves.specs.declared.cut.Cut.{Cut}
use Rattle.md_leaves.specs.declared.leaf.Kind.TheVariants as kind
use Rattle.md_leaves.specs.Closers.{closer, closer_with}

-- `](` at a place, with so many bytes up to the destination
pub closer-linked : (source bs : List ℕ) (at before : ℕ) → bs ≡ drop at source → slice_index bs 0 ≡ 93 → slice_index bs 1 ≡ 40 → before ≡ 1 + prefix_len is_blank (drop 2 bs) → closer at bs ≡ Some (closer_with at before (drop (at + 1 + before) source))
closer-linked source bs at before place first second count =
    let rest : drop (1 + before) bs ≡ drop (at + 1 + before) source =
    ap (drop (1 + before)) place ∙ (drop-drop (1 + before) at source ∙ ap (λ k. drop k source) (let e : at + (1 + before) ≡ at + 1 + before = omega arith in e)) in
    ap (λ b. cond (not (b == 93)) None (cond (slice_index bs 1 == 40) (Some (closer_with at (1 + prefix_len is_blank (drop 2 bs)) (drop (1 + (1 + prefix_len is_blank (drop 2 bs))) bs))) (Some (let plain : Cut = record { kind = kind.Closer None; more = 0 } in plain)))) first
    ∙ (ap (λ b. cond (b == 40) (Some (closer_with at (1 + prefix_len is_blank (drop 2 bs)) (drop (1 + (1 + prefix_len is_blank (drop 2 bs))) bs))) (Some (let plain : Cut = record { kind = kind.Closer None; more = 0 } in plain))) second
    ∙ (ap (λ n. Some (closer_with at n (drop (1 + n) bs))) (sym count)
    ∙ ap (λ x. Some (closer_with at before x)) rest))
