-- The pieces of a line: how they unfold.
use Rattle.std.proofs.Common.{◌≡◌, ◌≤◌, ◌==◌, ℕ, zero, suc, Bool, true, false, cond, List, [], ◌∷◌, length, take, drop, refl, ap, ap₂, sym, ◌∙◌, subst, arith, Some, None, Option, IfSome}
use Rattle.std.proofs.lemmas.Bool.{eqb-true}
use Rattle.ansi_text.specs.Sequences.{Sequence, sequence}
use Rattle.ansi_text.specs.Pieces.{Piece, sgr, cut, stretch, is_letter, is_bell, beyond, after_dropped, escape_of, escape, in_stretch, pieces_within, pieces, first_escape, AtEscape}
use Rattle.ansi_text.proofs.KeepLemmas.{Keeps, Behind-from}
use Rattle.ansi_text.proofs.SequenceLemmas.{kept-sequence}

-- a stretch in front of pieces, where it is not empty
abbrev pub with_stretch : List ℕ → List Piece → List Piece
with_stretch [] ps = ps
with_stretch (b ∷ bs) ps = stretch (b ∷ bs) ∷ ps

-- the pieces do not begin with a stretch
abbrev pub NoStretch : List Piece → Type 0
NoStretch [] = Unit {0}
NoStretch (sgr items ∷ ps) = Unit {0}
NoStretch (cut ∷ ps) = Unit {0}
NoStretch (stretch text ∷ ps) = ⊥

beyond-le : (test : ℕ → Bool) (bs : List ℕ) → length (beyond test bs) ≤ length bs
unfolding beyond
beyond-le test [] = omega arith
beyond-le test (b ∷ bs) = elim (test b) as (λ v. length (cond v bs (beyond test bs)) ≤ length (b ∷ bs)) [ true ↦ omega arith | false ↦ omega (arith, beyond-le test bs) ]

after_dropped-le : (bs : List ℕ) → length (after_dropped bs) ≤ length bs
after_dropped-le [] = omega arith
after_dropped-le (b ∷ bs) =
    elim (b == 91) as (λ v. length (cond v (beyond is_letter bs) (cond (b == 93) (beyond is_bell bs) (b ∷ bs))) ≤ length (b ∷ bs)) [
      | true ↦ omega (arith, beyond-le is_letter bs)
      | false ↦ elim (b == 93) as (λ v. length (cond v (beyond is_bell bs) (b ∷ bs)) ≤ length (b ∷ bs)) [ true ↦ omega (arith, beyond-le is_bell bs) | false ↦ omega arith ]
    ]

pub escape-le : (bs : List ℕ) → length (escape bs).rest ≤ length bs
escape-le bs =
    go (sequence bs) (let P : List ℕ → Type 0 = λ xs. length xs ≤ length bs in let keeps : Keeps P = λ b xs lt h. omega (arith, h) in kept-sequence P keeps bs (Behind-from P keeps bs (omega arith)))
  where
    go : (o : Option Sequence) → IfSome o (λ s. length s.rest ≤ length bs) → length (escape_of o bs).rest ≤ length bs
    go None h = after_dropped-le bs
    go (Some s) h = h

-- the number of steps does not matter once it is as great as the number of bytes
pub pieces_within-enough : (m n : ℕ) (bs : List ℕ) → length bs ≤ m → length bs ≤ n → pieces_within m bs ≡ pieces_within n bs
unfolding pieces_within
pieces_within-enough zero zero bs h k = refl
pieces_within-enough zero (suc n) [] h k = refl
pieces_within-enough zero (suc n) (b ∷ bs) h k = absurd (omega (arith, h))
pieces_within-enough (suc m) zero [] h k = refl
pieces_within-enough (suc m) zero (b ∷ bs) h k = absurd (omega (arith, k))
pieces_within-enough (suc m) (suc n) [] h k = refl
pieces_within-enough (suc m) (suc n) (b ∷ bs) h k =
    ap₂ (λ (xs ys : List Piece). cond (b == 27) ((escape bs).piece ∷ xs) (in_stretch b ys))
    (pieces_within-enough m n (escape bs).rest (omega (arith, escape-le bs, h)) (omega (arith, escape-le bs, k)))
    (pieces_within-enough m n bs (omega (arith, h)) (omega (arith, k)))

pub pieces-nil : pieces [] ≡ []
unfolding pieces_within
pieces-nil = refl

-- an escape byte in front
pub pieces-escape : (bs : List ℕ) → pieces (27 ∷ bs) ≡ (escape bs).piece ∷ pieces (escape bs).rest
unfolding pieces_within
pieces-escape bs =
    ap (λ (ps : List Piece). (escape bs).piece ∷ ps) (pieces_within-enough (length bs) (length (escape bs).rest) (escape bs).rest (escape-le bs) (omega arith))

-- another byte in front
pub pieces-byte : (b : ℕ) (bs : List ℕ) → (b == 27) ≡ false → pieces (b ∷ bs) ≡ in_stretch b (pieces bs)
unfolding pieces_within
pieces-byte b bs e = ap (λ v. cond v ((escape bs).piece ∷ pieces_within (length bs) (escape bs).rest) (in_stretch b (pieces_within (length bs) bs))) e

NoStretch-pieces : (bs : List ℕ) → AtEscape bs → NoStretch (pieces bs)
NoStretch-pieces [] e = subst NoStretch (sym pieces-nil) tt
NoStretch-pieces (b ∷ bs) e =
    subst NoStretch (sym (ap (λ (x : ℕ). pieces (x ∷ bs)) (eqb-true b 27 e) ∙ pieces-escape bs)) (go (sequence bs))
  where
    go : (o : Option Sequence) → NoStretch ((escape_of o bs).piece ∷ pieces (escape bs).rest)
    go None = tt
    go (Some s) = tt

in_stretch-with : (b : ℕ) (text : List ℕ) (ps : List Piece) → NoStretch ps → in_stretch b (with_stretch text ps) ≡ stretch (b ∷ text) ∷ ps
in_stretch-with b [] [] h = refl
in_stretch-with b [] (sgr items ∷ ps) h = refl
in_stretch-with b [] (cut ∷ ps) h = refl
in_stretch-with b [] (stretch text ∷ ps) h = absurd h
in_stretch-with b (c ∷ text) ps h = refl

pub AtEscape-first_escape : (bs : List ℕ) → AtEscape (drop (first_escape bs) bs)
unfolding first_escape
AtEscape-first_escape [] = tt
AtEscape-first_escape (b ∷ bs) = go (b == 27) refl (AtEscape-first_escape bs)
  where
    go : (v : Bool) → (b == 27) ≡ v → AtEscape (drop (first_escape bs) bs) → AtEscape (drop (cond v 0 (suc (first_escape bs))) (b ∷ bs))
    go true e ih = e
    go false e ih = ih

split_step : (v : Bool) (b : ℕ) (bs : List ℕ) (n : ℕ) (rest : List Piece) → (b == 27) ≡ v → NoStretch rest
    → pieces bs ≡ with_stretch (take n bs) rest → rest ≡ pieces (drop n bs)
    → pieces (b ∷ bs) ≡ with_stretch (take (cond v 0 (suc n)) (b ∷ bs)) (pieces (drop (cond v 0 (suc n)) (b ∷ bs)))
split_step true b bs n rest e front ih same = refl
split_step false b bs n rest e front ih same =
    pieces-byte b bs e ∙ ap (in_stretch b) ih ∙ in_stretch-with b (take n bs) rest front ∙ ap (λ (ps : List Piece). stretch (b ∷ take n bs) ∷ ps) same

-- a line is its first stretch, and the pieces from the first escape byte on
pub pieces-split : (bs : List ℕ) → pieces bs ≡ with_stretch (take (first_escape bs) bs) (pieces (drop (first_escape bs) bs))
unfolding first_escape
pieces-split [] = refl
pieces-split (b ∷ bs) =
    split_step (b == 27) b bs (first_escape bs) (pieces (drop (first_escape bs) bs)) refl
    (NoStretch-pieces (drop (first_escape bs) bs) (AtEscape-first_escape bs)) (pieces-split bs) refl

pub first_escape-le : (bs : List ℕ) → first_escape bs ≤ length bs
unfolding first_escape
first_escape-le [] = omega arith
first_escape-le (b ∷ bs) = elim (b == 27) as (λ v. cond v 0 (suc (first_escape bs)) ≤ length (b ∷ bs)) [ true ↦ omega arith | false ↦ omega (arith, first_escape-le bs) ]

-- a first byte that passes, one that does not, and none
pub beyond-yes : (test : ℕ → Bool) (bs rest : List ℕ) (b : ℕ) → bs ≡ b ∷ rest → test b ≡ true → rest ≡ beyond test bs
unfolding beyond
beyond-yes test bs rest b e passes = sym (ap (beyond test) e ∙ ap (λ v. cond v rest (beyond test rest)) passes)

pub beyond-no : (test : ℕ → Bool) (bs rest : List ℕ) (b : ℕ) → bs ≡ b ∷ rest → test b ≡ false → beyond test rest ≡ beyond test bs
unfolding beyond
beyond-no test bs rest b e fails = sym (ap (beyond test) e ∙ ap (λ v. cond v rest (beyond test rest)) fails)

pub beyond-none : (test : ℕ → Bool) (bs : List ℕ) → length bs ≡ 0 → bs ≡ beyond test bs
unfolding beyond
beyond-none test [] e = refl
beyond-none test (b ∷ bs) e = absurd (omega (arith, e))
