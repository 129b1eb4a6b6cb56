use Rattle.std.proofs.Common.{◌≡◌, ◌∙◌, ℕ, ◌-◌, List, All, length, sym, ap, subst, arith}
use Rattle.std.specs.Prelude.{vec_len}
use Rattle.atomic_table.specs.Seated.{TableId}
use Rattle.scq_park.specs.Exports.{deeds, first_posts, ParkerDeeds, parkers_of}
use Rattle.scq_park.proofs.Rows.{parkers_length}
use Rattle.scq_park.proofs.crew.Crew.make.Goals as goal

pub returns-clause-stands : goal.returns-clause-stands
returns-clause-stands c =
    c.in_ok-stands.ensures.stands ∙ ap (first_posts (parkers_of c.in_ok-wakers.wakers.items)) c.in_ok-wakers.ensures.count
    ∙ ap (λ (ts : List TableId). first_posts ts c.args.workers) (sym c.in_ok-stands.ensures.parkers)

pub invariant_of-crew : goal.invariant_of-crew
invariant_of-crew c =
    let ws = c.stands_of.new.wakers.items in
    let was = c.in_ok-wakers.wakers in
    let long : length ws ≡ vec_len was =
    omega (arith, parkers_length ws, parkers_length was.items, ap (λ (ts : List TableId). length ts) c.in_ok-stands.ensures.parkers, was.ok) in
    let many = c.in_ok-wakers.ensures.count in
    record {
      few = omega (arith, long, many, c.requires.most);
      rest = subst (λ (n : ℕ). All (λ (w : ParkerDeeds). w.deeds ≡ deeds (8191 - n) 0 0) ws) (sym long) c.in_ok-stands.ensures.wakers;
      no_own = c.in_ok-owns.ensures.items;
      all_own = omega (arith, long, many, c.in_ok-owns.ensures.capacity);
      no_rested = c.in_ok-rested.ensures.items;
      all_rested = omega (arith, long, many, c.in_ok-rested.ensures.capacity);
    }
