use Rattle.std.proofs.Common.{rules, ◌≡◌, ◌∙◌, sym, subst, arith, ◌<◌, List, length, Bor}
use Rattle.std.specs.Prelude.{IfOk, slice_index_or}
use Rattle.std.proofs.lemmas.List.{length-map}
use Rattle.scq_collect.specs.declared.spans.Span.{Span}
use Rattle.scq_collect.specs.Exports.{IsMadeOf}
use Rattle.scq_collect.proofs.Cuts.{read-map}
use Rattle.scq_collect.proofs.stretches.stretches_of.Goals as goal

pub map_indices-requires-after_bounds : goal.map_indices-requires-after_bounds
map_indices-requires-after_bounds g c κs within = λ n less. (less, c.requires.topics, c.requires.known)

pub returns : goal.returns
returns g c = λ answers laid.
    let topics = c.args.given.now.topics.now in
    let cuts = c.args.cuts.now in
    let made = c.in_ok-made.made.items in
    let spans : Bor (List Span) → List Span = λ cut. cut.now in
    let count : length made ≡ length cuts = search rules in
    record {
      count = count ∙ sym (length-map cuts spans);
      each = λ n d e less.
          let within : n < length cuts = omega (arith, less, count) in
          let read = read-map spans cuts n e within in
          subst (λ (ss : List Span). IfOk (slice_index_or made n d) (IsMadeOf topics answers ss)) (sym read.1)
          ((c.in_ok-made.ensures.each n d within).1.met answers read.0 laid);
    }
