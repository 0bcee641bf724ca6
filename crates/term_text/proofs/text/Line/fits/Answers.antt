use Rattle.std.proofs.Common.{ℕ, ◌≤◌, subst, sym}
use Rattle.std.proofs.lemmas.Bool.{le-leb, leb-true}
use Rattle.term_text.specs.Graph.{graphs}
use Rattle.term_text.proofs.WidthLemmas.{NoneWider-widest}
use Rattle.term_text.proofs.text.Line.fits.Goals as goal

pub returns : goal.returns
returns c =
    let both = NoneWider-widest c.args.width (graphs c.args.self.now) in
    let same = c.extent.ensures.widest in (
      λ h. both.0 (subst (λ (n : ℕ). n ≤ c.args.width) same (leb-true _ _ h)),
      λ h. le-leb _ _ (subst (λ (n : ℕ). n ≤ c.args.width) (sym same) (both.1 h)),
    )
