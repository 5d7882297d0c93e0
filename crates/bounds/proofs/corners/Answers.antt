use mathlib.Core.Path.{◌≡◌, refl, ◌∙◌}
use lib.IntN.{ℤ}
use mir.Syntax.{w64}
use mir.Val.{SFits}
use Rattle.laws.specs.Integers.{min_z, max_z, min4, max4}
use Rattle.laws.proofs.Machine.{Small, read_back, read_back_is, small_fits, fit_at}
use Rattle.bounds.specs.Rules.{corners}
use Rattle.bounds.proofs.corners.Goals as goal

-- what is read back of a small number is small
small : {a : ℤ} → Small a → Small (read_back a)
small p = rw (read_back_is (small_fits p)) p

-- one corner, of the numbers that were read back
corner_at : (f : ℤ → ℤ → ℤ) {a b r : ℤ} → Small a → Small b → r ≡ f (read_back a) (read_back b) → r ≡ f a b
corner_at f p q e = e ∙ rw (read_back_is (small_fits p), read_back_is (small_fits q)) refl

-- the results of two calls, and of a third on them
of_four : (m : ℤ → ℤ → ℤ) {p q r s a b l : ℤ} → SFits w64 p → SFits w64 q → SFits w64 r → SFits w64 s → SFits w64 a → SFits w64 b → SFits w64 l
    → a ≡ m (read_back p) (read_back q) → b ≡ m (read_back r) (read_back s) → l ≡ m (read_back a) (read_back b) → read_back l ≡ m (m p q) (m r s)
of_four m fp fq fr fs fa fb fl ea eb el =
    read_back_is fl ∙ el ∙ rw (read_back_is fa, read_back_is fb, ea, eb, read_back_is fp, read_back_is fq, read_back_is fr, read_back_is fs) refl

pub returns : goal.returns
unfolding corners min4 max4
returns g c f e =
    let x = c.requires.ends.0 in
    let y = c.requires.ends.1 in
    let p = corner_at f x.low y.low (e _ _ _ (small x.low) (small y.low) c.corner-p.ensures) in
    let q = corner_at f x.low y.high (e _ _ _ (small x.low) (small y.high) c.corner-q.ensures) in
    let r = corner_at f x.high y.low (e _ _ _ (small x.high) (small y.low) c.corner-r.ensures) in
    let s = corner_at f x.high y.high (e _ _ _ (small x.high) (small y.high) c.corner-s.ensures) in
    let fp = fit_at c.corner-p.result c.corner-p.type_inv in
    let fq = fit_at c.corner-q.result c.corner-q.type_inv in
    let fr = fit_at c.corner-r.result c.corner-r.type_inv in
    let fs = fit_at c.corner-s.result c.corner-s.type_inv in
    let low = of_four min_z fp fq fr fs (fit_at c.least.result c.least.type_inv) (fit_at c.least-2.result c.least-2.type_inv) (fit_at c.least-3.result c.least-3.type_inv) c.least.ensures c.least-2.ensures c.least-3.ensures in
    let high = of_four max_z fp fq fr fs (fit_at c.greatest.result c.greatest.type_inv) (fit_at c.greatest-2.result c.greatest-2.type_inv) (fit_at c.greatest-3.result c.greatest-3.type_inv) c.greatest.ensures c.greatest-2.ensures c.greatest-3.ensures in
    rw (low, high, p, q, r, s) refl
