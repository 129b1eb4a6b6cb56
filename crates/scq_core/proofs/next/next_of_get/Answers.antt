use Rattle.scq_core.proofs.next.next_of_get.Goals as goal

pub returns-in-AtD3-clause-part : goal.returns-in-AtD3-clause-part
returns-in-AtD3-clause-part c beside same p = rw c.in-AtD3.is (c.seen_by_get.ensures.part c.in-AtD3.least beside p)
