use Rattle.std.proofs.Common.{arith, ◌≡◌, ◌∙◌, ap, sym, subst, List, ◌++◌, length, map, take, drop}
use Rattle.std.specs.List.{All, AllZip}
use Rattle.std.proofs.lemmas.List.{length-map}
use Rattle.std.specs.Prelude.{sum_by}
use Rattle.scq_rest.specs.Exports.{task, HasBegun, HasDone, given_to, here, HasWork, IsUntouched}
use Rattle.scq_rest.specs.declared.places.Runner.{Runner}
use Rattle.scq_rest.specs.declared.threads.Work.{Work}
use Rattle.scq_files.proofs.Lists.{written-back}
use Rattle.scq_rest.proofs.places.all_in.Goals as goal

pub finish-requires-clause-begun : goal.finish-requires-clause-begun
finish-requires-clause-begun g c κs within = c.produce.ensures.begun.begun

-- the first is awaited, and each of the others that the caller runs
pub produce_all-requires-clause-awaited : goal.produce_all-requires-clause-awaited
produce_all-requires-clause-awaited g c κs within =
    omega (
      arith,
      c.begin_all.ensures.awaited,
      c.produce.ensures.awaited,
      c.len.ensures,
      c.args.given.ok.0,
      ap (sum_by here) c.as_mut_slice.ensures.value,
    )

pub begin_all-requires-clause-ready : goal.begin_all-requires-clause-ready
begin_all-requires-clause-ready g c κs within = c.requires.begins.0

pub begin_all-requires-clause-given : goal.begin_all-requires-clause-given
begin_all-requires-clause-given g c κs within = c.requires.begins.2

pub produce-requires-clause-given : goal.produce-requires-clause-given
produce-requires-clause-given g c κs within = c.requires.begins.1

pub produce_all-requires-clause-stands : goal.produce_all-requires-clause-stands
produce_all-requires-clause-stands g c κs within =
    subst (All (HasWork IsUntouched c.args.queue.now c.args.job.now c.args.crew.now g.S.Source)) (sym c.as_mut_slice.ensures.value) c.begin_all.ensures.stands

pub finish_all-requires-clause-stands : goal.finish_all-requires-clause-stands
finish_all-requires-clause-stands g c κs within =
    let first : List (Runner g.row.S.Denot) = c.begin_all.new.places.items in
    let second : List (Runner g.row.S.Denot) = c.produce_all.new.places in
    let long : length second ≡ c.begin_all.new.places.len = c.produce_all.auto.places ∙ c.as_mut_slice.ensures.len in
    subst (All (HasWork HasBegun c.args.queue.now c.args.job.now c.args.crew.now g.S.Source))
    (sym (c.as_mut_slice-2.ensures.value ∙ written-back c.begin_all.new.places.len second first long)) c.produce_all.ensures.stands

-- they are as many as were given
pub end_all-requires-clause-room : goal.end_all-requires-clause-room
end_all-requires-clause-room g c κs within =
    let many : length c.begin_all.new.places.items ≡ length c.args.given.items =
    sym (length-map c.begin_all.new.places.items given_to) ∙ ap length c.begin_all.ensures.given in
    omega (arith, many, c.begin_all.new.places.ok.0, c.args.given.ok.0, c.requires.begins.7)

-- what was written back is all of them
pub end_all-requires-clause-stands : goal.end_all-requires-clause-stands
end_all-requires-clause-stands g c κs within =
    let S = g.row.S.Denot in
    let Stands : Runner S → Type 0 = HasWork HasDone c.args.queue.now c.args.job.now c.args.crew.now g.S.Source in
    let first : List (Runner S) = c.begin_all.new.places.items in
    let second : List (Runner S) = c.produce_all.new.places in
    let third : List (Runner S) = c.finish_all.new.places in
    let n = c.begin_all.new.places.len in
    let longer : length third ≡ n = c.finish_all.auto.places ∙ c.as_mut_slice-2.ensures.len in
    let all : take n (third ++ drop (length third) (take n (second ++ drop (length second) first))) ≡ third =
    written-back n third (take n (second ++ drop (length second) first)) longer in
    subst (λ (ps : List (Runner S)). All Stands ps) (sym all) c.finish_all.ensures.stands

pub returns : goal.returns
returns g c =
    let S = g.row.S.Denot in
    let R : Work S → Work S → Type 0 =
    HasDone (task c.args.queue.now c.args.job.now c.args.crew.now g.S.Source) in
    let first : List (Runner S) = c.begin_all.new.places.items in
    let second : List (Runner S) = c.produce_all.new.places in
    let third : List (Runner S) = c.finish_all.new.places in
    let n = c.begin_all.new.places.len in
    let is = c.as_mut_slice.ensures.value in
    let long : length second ≡ n = c.produce_all.auto.places ∙ c.as_mut_slice.ensures.len in
    let whole : take n (second ++ drop (length second) first) ≡ second = written-back n second first long in
    let same : c.as_mut_slice-2.result.now ≡ second = c.as_mut_slice-2.ensures.value ∙ whole in
    let longer : length third ≡ n = c.finish_all.auto.places ∙ c.as_mut_slice-2.ensures.len in
    let all : take n (third ++ drop (length third) (take n (second ++ drop (length second) first))) ≡ third =
    written-back n third (take n (second ++ drop (length second) first)) longer in
    let given : map given_to third ≡ c.args.given.items =
    c.finish_all.ensures.given ∙ ap (map given_to) same ∙ c.produce_all.ensures.given ∙ ap (map given_to) is ∙ c.begin_all.ensures.given in
    (c.finish.ensures c.args.first c.produce.ensures.begun, subst (λ l. AllZip R l c.end_all.new.ends.items) (ap (map given_to) all ∙ given) c.end_all.ensures)
