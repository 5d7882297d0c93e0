use mathlib.Core.Path.{◌≡◌, refl, ap}
use borrow.Author.Rules.{rules}
use Rattle.codec.specs.Steps.{edition_number}
use Rattle.codec.proofs.Editions.{edition_same}
use Rattle.codec.proofs.Storing.{handed_on, stop_is}
use Rattle.codec.proofs.Unpacking.{nodes_refused, left_over, other_edition, none_left}
use Rattle.codec.proofs.all_nodes.Goals as goal

pub returns-in_err-end : goal.returns-in_err-end
returns-in_err-end c = handed_on _ c.from_residual.result c.from_residual.ensures.1 (nodes_refused _ _ _ _ (stop_is _ c.in_err-end.ensures))

pub returns-then-end-bytes : goal.returns-then-end-bytes
returns-then-end-bytes c = left_over _ _ _ _ c.in_ok-end.ensures c.if-end-bytes.true (rw c.at.ensures refl)

pub returns-then-ne : goal.returns-then-ne
returns-then-ne c =
    let other : c.edition_of.result ≡ c.args.opening.edition → ⊥ = search rules in
    other_edition _ _ _ _ c.in_ok-end.ensures c.if-end-bytes.false c.edition_of.ensures c.requires (λ e. other (edition_same _ _ e)) (rw c.at-then-ne.ensures refl)

pub returns : goal.returns
returns c =
    let same : c.edition_of.result ≡ c.args.opening.edition = search rules in
    none_left _ _ _ _ c.in_ok-end.ensures c.if-end-bytes.false c.edition_of.ensures c.requires (ap edition_number same)
