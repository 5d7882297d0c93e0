use borrow.Author.Rules.{sfits_of}
use Rattle.laws.proofs.Machine.{read_back_is}
use Rattle.bounds.proofs.Floors.{negated_fits, negated_small, negated_pos, negated_cast, floor_flipped, plain_cast, plain_pos, floor_plain}
use Rattle.bounds.proofs.floor_div.Goals as goal

pub overflow_sub-a : goal.overflow_sub-a
overflow_sub-a c = negated_fits c.ranges.a c.requires.0

pub overflow_sub-b : goal.overflow_sub-b
overflow_sub-b c = negated_fits c.ranges.b c.requires.1

pub overflow_cast-b : goal.overflow_cast-b
overflow_cast-b c = negated_cast c.ranges.b c.requires.1 c.if-b-lt0.true

pub floor_by-requires : goal.floor_by-requires
floor_by-requires c = (negated_small c.ranges.a c.requires.0, negated_pos c.ranges.b c.requires.1 c.if-b-lt0.true)

pub returns-then-b-lt0 : goal.returns-then-b-lt0
returns-then-b-lt0 c = floor_flipped c.ranges.a c.requires.0 c.ranges.b c.requires.1 (sfits_of c.floor_by.type_inv) c.if-b-lt0.true c.floor_by.ensures

pub overflow_cast-b-2 : goal.overflow_cast-b-2
overflow_cast-b-2 c = plain_cast c.ranges.b c.requires.1 c.if-b-lt0.false

pub floor_by-requires-2 : goal.floor_by-requires-2
floor_by-requires-2 c = (rw (read_back_is c.ranges.a) c.requires.0, plain_pos c.ranges.b c.if-b-lt0.false c.requires.2)

pub returns : goal.returns
returns c = floor_plain c.ranges.b c.if-b-lt0.false c.ranges.a (sfits_of c.floor_by-2.type_inv) c.floor_by-2.ensures
