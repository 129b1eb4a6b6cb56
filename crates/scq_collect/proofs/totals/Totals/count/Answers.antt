use Rattle.std.proofs.Common.{rules, ◌≡◌, ◌∙◌, ap, sym, arith, ◌+◌, ◌++◌, ◌∷◌, [], length, cond, eqb}
use Rattle.std.proofs.lemmas.List.Sums.{count_by-le-length}
use Rattle.scq_collect.specs.Exports.{answer_of_view, bytes_on, count_on}
use Rattle.scq_collect.proofs.Sums.{added, bytes-push, bytes-small, count-push}
use Rattle.scq_collect.proofs.totals.Totals.count.Goals as goal

pub overflow_add-self : goal.overflow_add-self
overflow_add-self c =
    let of = c.requires.room in
    omega (arith, of.1.counts c.args.answer.now.topic c.requires.known, count_by-le-length (λ a. eqb a.topic c.args.answer.now.topic) of.0, of.2)

pub overflow_add-self-2 : goal.overflow_add-self-2
overflow_add-self-2 c =
    let of = c.requires.room in
    omega (arith, of.1.bytes c.args.answer.now.topic c.requires.known, of.1.small c.args.answer.now.topic, of.2, c.wide.ensures.small)

pub returns : goal.returns
returns c = λ answers are.
    let a = answer_of_view c.args.answer.now in
    let known = c.requires.known in
    let counts : length c.args.self.now.counts ≡ 17 = search rules in
    let bytes : length c.args.self.now.bytes ≡ 17 = search rules in
    record {
      counts = added c.args.self.now.counts (λ k. count_on k answers) (λ k. count_on k (answers ++ a ∷ [])) a.topic 1 counts known are.counts
          (λ k. count-push answers a k);
      bytes = added c.args.self.now.bytes (λ k. bytes_on k answers) (λ k. bytes_on k (answers ++ a ∷ [])) a.topic c.wide.result bytes known are.bytes
          (λ k. bytes-push answers a k ∙ ap (λ n. bytes_on k answers + cond (eqb a.topic k) n 0) (sym c.wide.ensures.same));
      small = λ k. bytes-small answers a k (omega (arith, c.wide.ensures.same, c.wide.ensures.small)) (are.small k);
    }
