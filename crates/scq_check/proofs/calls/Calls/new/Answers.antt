use Rattle.scq_check.proofs.calls.Calls.new.Goals as goal

pub loop-e-init : goal.loop-e-init
loop-e-init c = c.in_ok-calls.ensures
