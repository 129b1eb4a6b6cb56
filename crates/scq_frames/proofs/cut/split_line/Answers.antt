use Rattle.scq_frames.proofs.TextLemmas.{before_first-some, before_first-none, payload_of-some, payload_of-none}
use Rattle.scq_frames.proofs.cut.split_line.Goals as goal

pub returns-in-Some-clause-topic : goal.returns-in-Some-clause-topic
returns-in-Some-clause-topic c = before_first-some c.args.line.now c.in-Some.space c.in-Some.ensures

pub returns-in-Some-clause-payload : goal.returns-in-Some-clause-payload
returns-in-Some-clause-payload c = payload_of-some c.args.line.now c.in-Some.space c.in-Some.ensures

pub returns-in-None-clause-topic : goal.returns-in-None-clause-topic
returns-in-None-clause-topic c = before_first-none c.args.line.now c.in-None.ensures

pub returns-in-None-clause-payload : goal.returns-in-None-clause-payload
returns-in-None-clause-payload c = payload_of-none c.args.line.now c.in-None.ensures
