use mathlib.Core.Path.{◌≡◌, ap}
use borrow.Author.Rules.{rules}
use Rattle.codec.specs.declared.Edition.TheVariants.{Second}
use Rattle.codec.specs.Steps.{edition_number}
use Rattle.codec.proofs.Editions.{edition_same}
use Rattle.packing.proofs.Turning.{opens_second, opens_first}
use Rattle.packing.proofs.opening.Goals as goal

pub returns-then-eq : goal.returns-then-eq
returns-then-eq c =
    let second : c.edition_of.result ≡ Second = search rules in
    opens_second c.args.table.now c.args.count c.requires.0 c.requires.2 c.edition_of.ensures (ap edition_number second) c.groups-one.ensures c.groups-two.ensures c.groups.ensures

pub returns : goal.returns
returns c =
    let other : c.edition_of.result ≡ Second → ⊥ = search rules in
    opens_first c.args.table.now c.args.count c.requires.0 c.requires.2 c.edition_of.ensures (λ e. other (edition_same _ Second e)) c.groups-2.ensures
