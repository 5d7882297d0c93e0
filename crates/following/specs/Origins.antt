-- How the code holds what a lookup finds on its way.
use Rattle.std.specs.Prelude.{◌<◌, ◌≡◌, List, map, ℤ, length, Some, None, Option as Perhaps}
use Rattle.std.proofs.Math.Option.{Option, none, some}
use Rattle.plan.specs.declared.NodeNumber.{NodeNumber}
use Rattle.plan.specs.declared.ElementNumber.{ElementNumber}
use Rattle.plan.specs.Answers.{accepted}
use Rattle.rules.specs.declared.Record.{Record}
use Rattle.rules.specs.Code.{view_of}
use Rattle.verifier.specs.Check.{verdict, count_of}
use Rattle.lookup.specs.Following.{record_of}

-- the element of a source; none where it is a gap
abbrev pub element_in : Perhaps ElementNumber → Option ElementNumber
element_in (Some e) = some e
element_in None = none

-- a node and an element of a plan that the check accepts with these records
pub record There (t : List ℤ) (records : List Record) (n : NodeNumber) (e : ElementNumber) : Type 0 where
  pub accepts : verdict t ≡ accepted (map view_of records)
  pub node_there : n.0 < length records
  pub element_there : e.0 < count_of (record_of (map view_of records) n)
