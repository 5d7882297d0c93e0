use Rattle.rules.specs.Rules.{devices_agree}
use Rattle.rules.proofs.devices_agree.Goals as goal

pub returns : goal.returns
unfolding devices_agree
returns c = simp (c.one_device-2.ensures, c.join_device.ensures, c.one_device.ensures)
