use lib.IntN.{pos}
use lib.ListN.{get_or}
use Rattle.laws.proofs.Machine.{read_back_is, fit_at}
use Rattle.plan.specs.Words.{node_of}
use Rattle.plan.proofs.node_of.Goals as goal

pub returns : goal.returns
unfolding node_of
returns c =
    let w = c.args.words.now in
    simp (
      c.row_at-first.ensures,
      c.row_at-rowa.ensures,
      c.row_at-rowb.ensures,
      c.size_at.ensures,
      read_back_is (fit_at (get_or w 5 (pos 0)) c.result-1.given),
      c.size_at-2.ensures,
      read_back_is (fit_at (get_or w 7 (pos 0)) c.result-2-1.given),
      read_back_is (fit_at (get_or w 8 (pos 0)) c.result-3-1.given),
    )
