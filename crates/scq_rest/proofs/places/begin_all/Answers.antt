use Rattle.std.proofs.Common.{◌≡◌, ◌∙◌, sym, ap, subst, arith, List, ◌∷◌, ◌++◌, [], length, map, reverse, append_assoc}
use Rattle.std.specs.List.{All}
use Rattle.std.proofs.lemmas.List.{reverse-reverse, map-append}
use Rattle.std.proofs.lemmas.List.Elements.{All-nil, All-push, All-head, All-tail}
use Rattle.std.specs.Prelude.{sum_by}
use Rattle.std.proofs.lemmas.List.Sums.{sum_by-append}
use Rattle.scq_rest.specs.Exports.{task, IsGiven, given_to, here, HasWork, IsUntouched}
use Rattle.scq_rest.specs.declared.places.Runner.{Runner}
use Rattle.scq_rest.specs.declared.threads.Work.{Work}
use Rattle.scq_passes.proofs.Parting.{turned}
use Rattle.scq_rest.proofs.places.begin_all.Goals as goal

pub starts-init : goal.starts-init
starts-init g c =
    let S = g.row.S.Denot in
    let all = c.args.given.items in
    let none = c.requires.empty in
    let back : reverse c.reverse.new.self.items ≡ all = ap reverse c.reverse.ensures.items ∙ reverse-reverse all in
    let Fresh : Work S → Type 0 =
    IsGiven (task c.args.queue.now c.args.job.now c.args.crew.now g.S.Source) in
    let Held : Runner S → Type 0 =
    HasWork IsUntouched c.args.queue.now c.args.job.now c.args.crew.now g.S.Source in
    record {
      given = ap (λ (ps : List (Runner S)). map given_to ps ++ reverse c.reverse.new.self.items) none ∙ back;
      awaited = omega (arith, c.reverse.ensures.len, ap (λ (ps : List (Runner S)). sum_by here ps) none);
      many = omega (arith, c.reverse.ensures.len, c.requires.awaited);
      rest = subst (All Fresh) (sym back) c.requires.given;
      flags = omega (arith, c.reverse.ensures.len, c.requires.flags);
      room = omega (arith, c.reverse.ensures.len, c.requires.room, ap length none, c.args.places.now.ok.0);
      stands = subst (All Held) (sym none) (All-nil Held);
    }

pub begin-requires-clause-given : goal.begin-requires-clause-given
begin-requires-clause-given g c κs within =
    let S = g.row.S.Denot in
    let Fresh : Work S → Type 0 =
    IsGiven (task c.args.queue.now c.args.job.now c.args.crew.now g.S.Source) in
    let rest = c.pop.new.self.items in
    let one = c.in-Some.work in
    All-head Fresh one (reverse rest) (subst (All Fresh) (turned c.starts.given.items rest one c.in-Some.ensures.items) c.starts.invariant.rest)

pub begin-requires-clause-awaited : goal.begin-requires-clause-awaited
begin-requires-clause-awaited g c κs within = omega (arith, c.starts.invariant.many, c.in-Some.ensures.cases)

pub starts-preserved : goal.starts-preserved
starts-preserved g c =
    let S = g.row.S.Denot in
    let inv = c.starts.invariant in
    let Fresh : Work S → Type 0 =
    IsGiven (task c.args.queue.now c.args.job.now c.args.crew.now g.S.Source) in
    let Held : Runner S → Type 0 =
    HasWork IsUntouched c.args.queue.now c.args.job.now c.args.crew.now g.S.Source in
    let places = c.starts.places.items in
    let rest = c.pop.new.self.items in
    let one = c.in-Some.work in
    let place = c.begin.result in
    record {
      given = ap (λ (ps : List (Runner S)). map given_to ps ++ reverse rest) c.push_reserved.ensures.items
          ∙ ap (λ l. l ++ reverse rest) (map-append given_to places (place ∷ []))
          ∙ append_assoc (map given_to places) (given_to place ∷ []) (reverse rest)
          ∙ ap (λ w. map given_to places ++ w ∷ reverse rest) c.begin.ensures.given
          ∙ ap (λ l. map given_to places ++ l) (sym (turned c.starts.given.items rest one c.in-Some.ensures.items)) ∙ inv.given;
      awaited = omega (
        arith,
        inv.awaited,
        c.in-Some.ensures.cases,
        c.begin.ensures.awaited,
        ap (sum_by here) c.push_reserved.ensures.items,
        sum_by-append here places (place ∷ []),
      );
      many = omega (arith, inv.many, c.in-Some.ensures.cases, c.begin.ensures.awaited);
      rest = All-tail Fresh one (reverse rest) (subst (All Fresh) (turned c.starts.given.items rest one c.in-Some.ensures.items) inv.rest);
      flags = omega (arith, inv.flags, c.in-Some.ensures.cases);
      room = omega (arith, inv.room, c.in-Some.ensures.cases, c.push_reserved.ensures.len, c.push_reserved.ensures.capacity);
      stands = subst (All Held) (sym c.push_reserved.ensures.items) (All-push Held places place inv.stands c.begin.ensures.stands);
    }
