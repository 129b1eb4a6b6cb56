use Rattle.std.proofs.Common.{◌∙◌, ap, sym, arith, ◌+◌, get_or, eqb, cond}
use Rattle.std.proofs.lemmas.List.{length-append}
use Rattle.std.proofs.lemmas.List.Sums.{count_by-le-length, sum_by-append}
use Rattle.scq_collect.specs.Exports.{Answer, bytes_on, count_on}
use Rattle.scq_collect.proofs.totals.Totals.add.Goals as goal

pub overflow_add-self : goal.overflow_add-self
overflow_add-self c =
    let of = c.requires.room in
    let k = c.loop-topic.topic in
    let within = c.loop-topic-test.true in
    omega (
      arith,
      within,
      c.loop-topic.invariant.counts_left k (omega arith),
      of.2.counts k (omega (arith, within)),
      of.3.counts k (omega (arith, within)),
      count_by-le-length (λ a. eqb a.topic k) of.0,
      count_by-le-length (λ a. eqb a.topic k) of.1,
      of.4,
    )

pub returns : goal.returns
returns c = λ answers more are others.
    let known = c.loop-topic.invariant in
    let ended = c.loop-topic-test.false in
    record {
      counts = λ k small. known.counts k (omega (arith, ended, small)) ∙ ap (λ n. n + get_or c.args.others.now.counts k 0) (are.counts k small) ∙ ap (λ n. count_on k answers + n) (others.counts k small)
          ∙ sym (sum_by-append (λ (a : Answer). cond (eqb a.topic k) 1 0) answers more);
      bytes = λ k small. known.bytes k (omega (arith, ended, small)) ∙ ap (λ n. n + get_or c.args.others.now.bytes k 0) (are.bytes k small) ∙ ap (λ n. bytes_on k answers + n) (others.bytes k small)
          ∙ sym (sum_by-append (λ (a : Answer). cond (eqb a.topic k) a.bytes 0) answers more);
      small = λ k. omega (arith, are.small k, others.small k, sum_by-append (λ (a : Answer). cond (eqb a.topic k) a.bytes 0) answers more, length-append answers more);
    }
