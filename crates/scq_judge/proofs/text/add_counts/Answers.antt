use Rattle.std.specs.Prelude.{codes}
use Rattle.scq_judge.specs.Exports.{count_line}
use Rattle.scq_judge.proofs.TextLemmas.{grown_by_five}
use Rattle.scq_judge.proofs.text.add_counts.Goals as goal

pub returns : goal.returns
returns c =
    let counts = c.args.counts in
    grown_by_five c.args.text.now.items c.add_count.new.text.items c.add_count-2.new.text.items c.add_count-3.new.text.items c.add_count-4.new.text.items
    c.add_count-5.new.text.items (count_line (codes "events") counts.events) (count_line (codes "queues") counts.queues)
    (count_line (codes "seats") counts.seats) (count_line (codes "calls") counts.calls) (count_line (codes "overlapping") counts.overlapping)
    c.in_ok-add_count.ensures c.in_ok-add_count-2.ensures c.in_ok-add_count-3.ensures c.in_ok-add_count-4.ensures c.in_ok-add_count-5.ensures
