-- Cells that are changed one after another.
use Rattle.std.proofs.Common.{◌≡◌, ℕ, ◌+◌, ◌<◌, ◌≤◌, Bool, true, false, cond, nat_le, nat_lt, ◌==◌, ◌&&◌, Option, Some, None, refl, sym, ap, ◌∙◌, arith}
use Rattle.std.specs.Prelude.{option_map}
use Rattle.std.proofs.lemmas.Bool.Decides.{nat_tests}
use Rattle.term_core.specs.Buffers.{BufferView, cell_at}
use Rattle.term_core.specs.Cells.{CellView}

abbrev pub changed : Bool → (CellView → CellView) → Option CellView → Option CellView
changed t f o = cond t (option_map f o) o

-- the cells at the places whose test holds are changed
pub record Changed (f : ℕ → ℕ → CellView → CellView) (test : ℕ → ℕ → Bool) (old new : BufferView) : Type 0 where
  pub area : new.area ≡ old.area
  pub cells : (p q : ℕ) → cell_at new p q ≡ changed (test p q) (f p q) (cell_at old p q)

pub Changed-none : (f : ℕ → ℕ → CellView → CellView) (test : ℕ → ℕ → Bool) (old : BufferView) → ((p q : ℕ) → test p q ≡ false) → Changed f test old old
Changed-none f test old none = record { area = refl; cells = λ p q. sym (ap (λ t. changed t (f p q) (cell_at old p q)) (none p q)) }

map-same : (f g : CellView → CellView) → ((c : CellView) → f c ≡ g c) → (o : Option CellView) → option_map f o ≡ option_map g o
map-same f g same None = refl
map-same f g same (Some c) = ap (λ (d : CellView). Some d) (same c)

-- what one more change says of its places
pub record IsHere (f g : ℕ → ℕ → CellView → CellView) (test more : ℕ → ℕ → Bool) (p q : ℕ) : Type 0 where
  pub before : test p q ≡ false
  pub after : more p q ≡ true
  pub same : (c : CellView) → g p q c ≡ f p q c

pub Changed-step : (f g : ℕ → ℕ → CellView → CellView) (test more here : ℕ → ℕ → Bool) (old b new : BufferView) → Changed f test old b
    → ((p q : ℕ) → here p q ≡ true → IsHere f g test more p q) → ((p q : ℕ) → here p q ≡ false → test p q ≡ more p q)
    → new.area ≡ b.area → ((p q : ℕ) → cell_at new p q ≡ changed (here p q) (g p q) (cell_at b p q))
    → Changed f more old new
Changed-step f g test more here old b new inv at apart area set =
    record { area = area ∙ inv.area; cells = λ p q. set p q ∙ go p q (here p q) refl }
  where
    go : (p q : ℕ) (h : Bool) → here p q ≡ h → changed h (g p q) (cell_at b p q) ≡ changed (more p q) (f p q) (cell_at old p q)
    go p q true e =
        let is = at p q e in
        ap (option_map (g p q)) (inv.cells p q ∙ ap (λ t. changed t (f p q) (cell_at old p q)) is.before)
        ∙ map-same (g p q) (f p q) is.same (cell_at old p q)
        ∙ sym (ap (λ t. changed t (f p q) (cell_at old p q)) is.after)
    go p q false e = inv.cells p q ∙ ap (λ t. changed t (f p q) (cell_at old p q)) (apart p q e)

map-stays : (f : CellView → CellView) → ((c : CellView) → f c ≡ c) → (o : Option CellView) → option_map f o ≡ o
map-stays f stays None = refl
map-stays f stays (Some c) = ap (λ (d : CellView). Some d) (stays c)

-- by another test, which differs only where the change leaves a cell as it is
pub Changed-other : (f : ℕ → ℕ → CellView → CellView) (test other : ℕ → ℕ → Bool) (old new : BufferView) → Changed f test old new
    → ((p q : ℕ) → test p q ≡ true → other p q ≡ true)
    → ((p q : ℕ) → test p q ≡ false → other p q ≡ true → (c : CellView) → f p q c ≡ c)
    → (p q : ℕ) → cell_at new p q ≡ changed (other p q) (f p q) (cell_at old p q)
Changed-other f test other old new set more stays p q = set.cells p q ∙ go (test p q) refl (other p q) refl
  where
    go : (t : Bool) → test p q ≡ t → (u : Bool) → other p q ≡ u → changed t (f p q) (cell_at old p q) ≡ changed u (f p q) (cell_at old p q)
    go true e true h = refl
    go true e false h = let g : false ≡ true = sym h ∙ more p q e in cc
    go false e true h = sym (map-stays (f p q) (stays p q e h) (cell_at old p q))
    go false e false h = refl

-- a stretch of a row or of a column, from a up to b
abbrev pub in_stretch : ℕ → ℕ → ℕ → Bool
in_stretch a b p = nat_le a p && nat_lt p b
