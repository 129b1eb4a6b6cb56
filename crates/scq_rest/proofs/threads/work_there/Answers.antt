use Rattle.scq_rest.proofs.threads.work_there.Goals as goal

pub produce-requires-clause-ready : goal.produce-requires-clause-ready
produce-requires-clause-ready g c κs within = c.requires.begins.ready

pub produce-requires-clause-given : goal.produce-requires-clause-given
produce-requires-clause-given g c κs within = c.requires.begins.given

pub finish-requires-clause-begun : goal.finish-requires-clause-begun
finish-requires-clause-begun g c κs within = c.produce.ensures.begun.begun

pub returns : goal.returns
returns g c = c.finish.ensures c.args.given c.produce.ensures.begun
