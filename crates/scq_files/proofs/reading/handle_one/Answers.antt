use Rattle.std.proofs.Common.{rules, [], ◌∷◌}
use Rattle.scq_files.proofs.Results.{err-of}
use Rattle.scq_files.proofs.reading.handle_one.Goals as goal
use Rattle.scq_files.proofs.reading.handle_one.Goals.{then-may_wait+in_ok-pause, else-may_wait}

pub returns-in_err-pause-clause-stopped : goal.returns-in_err-pause-clause-stopped
returns-in_err-pause-clause-stopped g c =
    let stop = c.in_err-pause.field-0.0 in
    err-of _ c.from_residual-in_err-pause.result stop (search rules)
    (g.met.H.Handler.then_stopped c.args.with.now (c.args.message.now ∷ []) [] _ _ _ _ _ _ stop c.in_ok-handle.ensures.handled
    c.in_err-pause.ensures.stopped)

-- with or without a pause
pub returns-clause-handled : goal.returns-clause-handled
returns-clause-handled g c =
    elim c.if-may_wait.branch [
      | then-may_wait+in_ok-pause w ↦
          rw (w.handler-is, w.beside-is)
          (g.met.H.Handler.more_handled c.args.with.now (c.args.message.now ∷ []) [] _ _ _ _ _ _ c.in_ok-handle.ensures.handled
          w.in_ok-pause.ensures.handled)
      | else-may_wait w ↦ rw (w.handler-is, w.beside-is) c.in_ok-handle.ensures.handled
    ]
