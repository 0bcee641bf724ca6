-- Graphemes of one column that are not blank.
use Rattle.std.specs.Prelude.{◌≡◌, ℕ, zero, suc, ◌==◌, Bool, true, false, not, ◌&&◌, List, [], ◌∷◌}
use Rattle.term_text.specs.Graph.{Grapheme}
use Rattle.term_text.specs.Plain.{is_narrow}

-- a plain character of one column that is no space
abbrev pub is_solid : ℕ → Bool
is_solid c = is_narrow c && not (c == 32)

-- so many such characters stand in front of the rest
unfoldable pub SolidFront : ℕ → List ℕ → List ℕ → Type 0
SolidFront zero cs rest = cs ≡ rest
SolidFront (suc n) [] rest = ⊥
SolidFront (suc n) (c ∷ cs) rest = (is_solid c ≡ true) × SolidFront n cs rest

-- so many such graphemes stand in front of the rest
unfoldable pub AreSolid : ℕ → List Grapheme → List Grapheme → Type 0
AreSolid zero gs rest = gs ≡ rest
AreSolid (suc n) [] rest = ⊥
AreSolid (suc n) (g ∷ gs) rest = (g.width ≡ 1) × (g.blank ≡ false) × AreSolid n gs rest
