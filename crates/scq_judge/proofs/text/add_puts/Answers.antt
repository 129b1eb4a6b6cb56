use Rattle.std.proofs.Common.{◌+◌, decimal}
use Rattle.std.specs.Prelude.{codes}
use Rattle.scq_judge.specs.Exports.{got_text, put_text, told_by}
use Rattle.scq_judge.proofs.TextLemmas.{grown_by_five}
use Rattle.scq_judge.proofs.text.add_puts.Goals as goal

pub returns-in_ok-add_got : goal.returns-in_ok-add_got
returns-in_ok-add_got c =
    let t = told_by c.args.teller in
    let told = c.in-Some.told in
    rw c.in-Some.is (grown_by_five c.args.text.now.items c.extend_from_slice.new.self.items c.add_number.new.text.items
    c.extend_from_slice-in-Some.new.self.items c.add_put.new.text.items c.add_got.new.text.items (codes "; ") (decimal (told.tokens.count + told.puts.count))
    (codes " waiting, one put at ") (put_text t told.token told.put) (got_text t told.got) c.in_ok-extend_from_slice.ensures.items
    c.in_ok-add_number.ensures c.in_ok-extend_from_slice-2.ensures.items c.in_ok-add_put.ensures c.in_ok-add_got.ensures)
