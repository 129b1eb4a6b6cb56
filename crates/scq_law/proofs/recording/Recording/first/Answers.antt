-- No put and no attempt is counted, and nobody is named.
use Rattle.std.proofs.Common.{ℕ, ap, subst, arith}
use Rattle.std.specs.Prelude.{unwrap_or}
use Rattle.scq_law.specs.Exports.{Counts, first_placer}
use Rattle.scq_law.proofs.recording.Recording.first.Goals as goal

pub returns : goal.returns
returns c = record {
  setup = c.in_ok-start.ensures.setup;
  state = c.in_ok-start.ensures.machine;
  events = c.new.ensures.items;
  puts = subst (λ (n : ℕ). Counts n c.in_ok-no_counts.field-0.items (λ _. 0)) c.seats.ensures c.in_ok-no_counts.ensures;
  rings = omega (arith, c.in_ok-no_names.ensures.many, c.in_ok-no_names.field-0.ok);
  placer = λ r p. ap (λ name. unwrap_or name (first_placer c.args.setup r p)) (c.in_ok-no_names.ensures.none r p);
  resets = subst (λ (n : ℕ). Counts n c.in_ok-no_counts-2.field-0.items (λ _. 0)) c.rings-rings.ensures c.in_ok-no_counts-2.ensures;
  fails = subst (λ (n : ℕ). Counts n c.in_ok-no_counts-3.field-0.items (λ _. 0)) c.rings-rings.ensures c.in_ok-no_counts-3.ensures;
}
