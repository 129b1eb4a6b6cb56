use Rattle.scq_core.proofs.next.next_of.Goals as goal

pub returns-in-AtE2-clause-part : goal.returns-in-AtE2-clause-part
returns-in-AtE2-clause-part c beside same p = rw c.in-AtE2.is (c.seen_by_put.ensures.part c.in-AtE2.least beside p)

pub returns-in-AtE1-clause-part : goal.returns-in-AtE1-clause-part
returns-in-AtE1-clause-part c beside same p = rw c.in-AtE1.is (c.drawn.ensures.part p)
