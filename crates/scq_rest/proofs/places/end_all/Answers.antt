use Rattle.std.proofs.Common.{◌≡◌, ◌∙◌, sym, ap, subst, arith, ◌++◌, [], length, map, reverse}
use Rattle.std.specs.List.{All, AllZip}
use Rattle.std.proofs.lemmas.List.{reverse-reverse, append-nil, nil_from_length}
use Rattle.std.proofs.lemmas.List.Elements.{All-head, All-tail}
use Rattle.scq_rest.specs.Exports.{task, HasDone, given_to, HasWork}
use Rattle.scq_rest.specs.declared.places.Runner.{Runner}
use Rattle.scq_rest.specs.declared.threads.Work.{Work}
use Rattle.scq_passes.proofs.Parting.{turned}
use Rattle.scq_rest.proofs.PlaceLemmas.{zipped-next}
use Rattle.scq_rest.proofs.places.end_all.Goals as goal

pub ends-init : goal.ends-init
ends-init g c =
    let S = g.row.S.Denot in
    let all = c.args.places.items in
    let none = c.requires.empty in
    let back : reverse c.reverse.new.self.items ≡ all = ap reverse c.reverse.ensures.items ∙ reverse-reverse all in
    let R : Work S → Work S → Type 0 =
    HasDone (task c.args.queue.now c.args.job.now c.args.crew.now g.S.Source) in
    let Held : Runner S → Type 0 =
    HasWork HasDone c.args.queue.now c.args.job.now c.args.crew.now g.S.Source in
    record {
      ended = λ more so. subst (λ es. AllZip R (map given_to all) (es ++ more)) (sym none) (subst (λ ps. AllZip R (map given_to ps) more) back so);
      stands = subst (All Held) (sym back) c.requires.stands;
      room = omega (arith, c.reverse.ensures.len, c.requires.room, ap length none, c.args.ends.now.ok.0);
      none = c.requires.none;
    }

pub end-requires-clause-stands : goal.end-requires-clause-stands
end-requires-clause-stands g c κs within =
    let S = g.row.S.Denot in
    let Held : Runner S → Type 0 =
    HasWork HasDone c.args.queue.now c.args.job.now c.args.crew.now g.S.Source in
    let rest = c.pop.new.self.items in
    let place = c.in-Some.place in
    All-head Held place (reverse rest) (subst (All Held) (turned c.ends.places.items rest place c.in-Some.ensures.items) c.ends.invariant.stands)

pub ends-preserved : goal.ends-preserved
ends-preserved g c =
    let S = g.row.S.Denot in
    let inv = c.ends.invariant in
    let rest = c.pop.new.self.items in
    let place = c.in-Some.place in
    let R : Work S → Work S → Type 0 =
    HasDone (task c.args.queue.now c.args.job.now c.args.crew.now g.S.Source) in
    let Held : Runner S → Type 0 =
    HasWork HasDone c.args.queue.now c.args.job.now c.args.crew.now g.S.Source in
    record {
      ended = λ more so. subst (λ es. AllZip R (map given_to c.args.places.items) (es ++ more)) (sym c.push_reserved.ensures.items)
          (zipped-next R given_to (map given_to c.args.places.items) c.ends.places.items rest place c.ends.ends.items c.end.result inv.ended
          c.in-Some.ensures.items c.end.ensures.done more so);
      stands = All-tail Held place (reverse rest) (subst (All Held) (turned c.ends.places.items rest place c.in-Some.ensures.items) inv.stands);
      room = omega (arith, inv.room, c.in-Some.ensures.cases, c.push_reserved.ensures.len, c.push_reserved.ensures.capacity);
      none = c.end.ensures.none;
    }

pub returns : goal.returns
returns g c =
    let S = g.row.S.Denot in
    let R : Work S → Work S → Type 0 =
    HasDone (task c.args.queue.now c.args.job.now c.args.crew.now g.S.Source) in
    let none : c.ends.places.items ≡ [] = nil_from_length c.ends.places.items (omega (arith, c.in_default.ensures.cases, c.ends.places.ok.0)) in
    subst (AllZip R (map given_to c.args.places.items)) (append-nil c.ends.ends.items)
    (c.ends.invariant.ended [] (subst (λ ps. AllZip R (map given_to (reverse ps)) []) (sym none) tt))
