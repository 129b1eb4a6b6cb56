use Rattle.std.proofs.Common.{rules, ◌≡◌, ◌<◌, ◌-◌, ◌∙◌, sym, ap, subst, arith, refl, inl, inr, ◌++◌, ℕ, List, length, set, true, false, get_or-set_same, get_or-set_other}
use Rattle.std.specs.Prelude.{slice_index_or}
use Rattle.std.proofs.lemmas.Bool.{cases_Bool, cases_lt, true≢false}
use Rattle.std.proofs.lemmas.List.{length-set}
use Rattle.scq_files.specs.Exports.{IsNew, StopsAtAFault, ids_of, all_given, given_in, TellsOfWant, WantsAtLast, AreRead, IsRead}
use Rattle.scq_frames.specs.declared.fault.FrameFault.TheVariants.{NoMemory}
use Rattle.scq_files.specs.declared.own_file.FileEnd.TheVariants.{Stopped}
use Rattle.scq_files.specs.declared.own_file.OwnFile.{OwnFile}
use Rattle.scq_files.proofs.FileLists.{given-set, ids-set, given-none}
use Rattle.scq_files.proofs.Lists.{set-each}
use Rattle.scq_files.proofs.ReadLemmas.{reading-unread}
use Rattle.scq_files.proofs.Wants.{wants-none, wants-behind}
use Rattle.scq_files.proofs.Results.{err-of}
use Rattle.scq_files.proofs.reading.read_files.Goals as goal
use Rattle.scq_files.proofs.reading.read_files.Goals.{After-read_file}

-- the file that was read is still the one of its place
same-after : (g : _) (c : After-read_file g) → ids_of (set c.files.files (c.files.at - 1) c.read_file.new.file) ≡ ids_of c.args.files.now
same-after g c =
    let at = c.files.at - 1 in
    let inv = c.files.invariant in
    let within : at < length c.files.files = omega (arith, c.files-test.true, inv.within) in
    ids-set c.files.files at c.read_file.new.file c.index-files-at.result within c.read_file.ensures.same.0 c.read_file.ensures.same.1 ∙ inv.same

-- what is known of each file is what was read of it
read-after : (g : _) (c : After-read_file g)
    → AreRead c.args.topics.now c.args.longest g.S.Source (set c.files.files (c.files.at - 1) c.read_file.new.file)
read-after g c k d less =
    let at = c.files.at - 1 in
    let inv = c.files.invariant in
    let within : at < length c.files.files = omega (arith, c.files-test.true, inv.within) in
    set-each (λ j f. IsRead c.args.topics.now c.args.longest g.S.Source f.number f.was.value f.source (given_in f.given.value) f.end) c.files.files at
    c.read_file.new.file d within c.read_file.ensures.read (λ j below apart. inv.read j d below) k
    (omega (arith, less, length-set c.files.files at c.read_file.new.file))

-- what all gave, with what this one gave
given-after : (g : _) (c : After-read_file g)
    → all_given (set c.files.files (c.files.at - 1) c.read_file.new.file) ≡ all_given c.files.files ++ given_in c.read_file.new.file.given.value
given-after g c =
    let at = c.files.at - 1 in
    let inv = c.files.invariant in
    let within : at < length c.files.files = omega (arith, c.files-test.true, inv.within) in
    let low : at < c.files.at = omega (arith, c.files-test.true) in
    given-set c.files.files at c.read_file.new.file c.index-files-at.result within
    (λ k below. (inv.unread k c.index-files-at.result (omega (arith, below, low))).given)

-- and what was handled of all
handled-after : (g : _) (c : After-read_file g)
    → g.H.Handler.handled c.args.with.now (given_in c.read_file.new.file.given.value) c.files.beside c.files.handler c.read_file.new.beside
    c.read_file.new.handler
    → g.H.Handler.handled c.args.with.now (all_given (set c.files.files (c.files.at - 1) c.read_file.new.file)) c.args.beside.now c.args.handler.now
    c.read_file.new.beside c.read_file.new.handler
handled-after g c its =
    subst (λ (ms : List _). g.H.Handler.handled c.args.with.now ms c.args.beside.now c.args.handler.now c.read_file.new.beside
    c.read_file.new.handler) (sym (given-after g c))
    (g.met.H.Handler.more_handled _ _ _ _ _ _ _ _ _ c.files.invariant.handled its)

-- memory was wanted at the last message, if at all
wants-after : (g : _) (c : After-read_file g) → g.H.Handler.wanted c.args.handler.now ≡ false
    → WantsAtLast g.H.Handler.wanted (g.H.Handler.handled c.args.with.now) (all_given (set c.files.files (c.files.at - 1) c.read_file.new.file))
    c.args.beside.now c.args.handler.now
wants-after g c fed =
    wants-behind (all_given c.files.files) (given_in c.read_file.new.file.given.value) _ _ _ _ _ (given-after g c)
    (λ front u j its. g.met.H.Handler.more_handled _ _ _ _ _ _ _ _ _ c.files.invariant.handled its)
    (c.read_file.ensures.wanted (c.files.invariant.fed fed))

-- and where it was, the file that was read tells of it
told-after : (g : _) (c : After-read_file g) → g.H.Handler.wanted c.args.handler.now ≡ false → g.H.Handler.wanted c.read_file.new.handler ≡ true
    → TellsOfWant (set c.files.files (c.files.at - 1) c.read_file.new.file)
told-after g c fed wants =
    let at = c.files.at - 1 in
    let file = c.read_file.new.file in
    let within : at < length c.files.files = omega (arith, c.files-test.true, c.files.invariant.within) in (
      at,
      omega (arith, within, length-set c.files.files at file),
      λ d. ap (λ (f : OwnFile _). f.end) (get_or-set_same c.files.files at file d within) ∙ c.read_file.ensures.told (c.files.invariant.fed fed) wants,
    )

-- one that didn't stop for that wanted none
fed-after : (g : _) (c : After-read_file g) → g.H.Handler.wanted c.files.handler ≡ false → (c.read_file.new.file.end ≡ Stopped NoMemory → ⊥)
    → g.H.Handler.wanted c.read_file.new.handler ≡ false
fed-after g c fed going = elim (cases_Bool (g.H.Handler.wanted c.read_file.new.handler)) [
  | inl wants ↦ absurd (going (c.read_file.ensures.told fed wants))
  | inr fed' ↦ fed'
]

-- none behind the file that was read has a fault, and none in front of it was read
stops-after : (g : _) (c : After-read_file g) → StopsAtAFault (set c.files.files (c.files.at - 1) c.read_file.new.file)
stops-after g c at before d fault less is low =
    let here = c.files.at - 1 in
    let inv = c.files.invariant in
    let file = c.read_file.new.file in
    let within : here < length c.files.files = omega (arith, c.files-test.true, inv.within) in
    let long = length-set c.files.files here file in
    let front : (k : ℕ) → k < here → IsNew (slice_index_or (set c.files.files here file) k d) =
    λ k h. subst IsNew (sym (get_or-set_other c.files.files here k file d (λ e. absurd (omega arith)))) (inv.unread k d (omega (arith, h))) in
    elim (cases_lt here at) [
      | inl behind ↦
          absurd (inv.sound at d fault (omega (arith, behind)) (omega (arith, less, long))
          (subst (λ (f : OwnFile _). f.end ≡ Stopped fault) (get_or-set_other c.files.files here at file d (λ e. absurd (omega (arith, behind, e)))) is))
      | inr upto ↦ front before (omega (arith, low, upto))
    ]

pub files-init : goal.files-init
files-init g c = record {
  within = omega arith;
  unread = λ k d less. c.requires.unread k d less;
  sound = λ k d fault past less is. absurd (omega arith);
  same = refl;
  read = λ k d less. reading-unread c.args.topics.now c.args.longest g.S.Source (slice_index_or c.args.files.now k d) (c.requires.unread k d less);
  ready = c.requires.ready;
  handled =
      subst (λ (ms : List _). g.H.Handler.handled c.args.with.now ms c.args.beside.now c.args.handler.now c.args.beside.now c.args.handler.now)
      (sym (given-none c.args.files.now (λ k d less. (c.requires.unread k d less).given)))
      (g.met.H.Handler.none_handled c.args.with.now c.args.beside.now c.args.handler.now c.requires.ready);
  fed = λ fed. fed;
}

pub returns-in_err-read_file : goal.returns-in_err-read_file
returns-in_err-read_file g c =
    let at = (goal.at.returns-in_err-read_file g c).After-read_file in
    let stop = c.in_err-read_file.field-0.0 in
    let Stopped-after : List _ → Type 0 =
    λ ms. g.H.Handler.stopped c.args.with.now ms c.args.beside.now c.args.handler.now c.read_file.new.beside c.read_file.new.handler stop in
    record {
      same = same-after g at;
      read = read-after g at;
      stops = stops-after g at;
      handled = search rules;
      stopped = err-of _ c.from_residual.result stop (search rules) (subst Stopped-after (sym (given-after g at))
          (g.met.H.Handler.then_stopped _ _ _ _ _ _ _ _ _ stop c.files.invariant.handled c.in_err-read_file.ensures.stopped));
      wanted = λ fed. (wants-after g at fed, told-after g at fed);
    }

pub returns-in-Stopped : goal.returns-in-Stopped
returns-in-Stopped g c =
    let at = (goal.at.returns-in-Stopped g c).After-read_file in
    record {
      same = same-after g at;
      read = read-after g at;
      stops = stops-after g at;
      handled = handled-after g at c.in_ok-read_file.ensures.handled;
      stopped = search rules;
      wanted = λ fed. (wants-after g at fed, told-after g at fed);
    }

pub returns-clause-stops : goal.returns-clause-stops
returns-clause-stops g c at before d fault less is low =
    absurd (c.files.invariant.sound at d fault (omega (arith, c.files-test.false)) less is)

pub files-preserved : goal.files-preserved
files-preserved g c =
    let at = c.files.at - 1 in
    let inv = c.files.invariant in
    let within : at < length c.files.files = omega (arith, c.files-test.true, inv.within) in
    let low : at < c.files.at = omega (arith, c.files-test.true) in
    let long = length-set c.files.files at c.read_file.new.file in
    let its = c.in_ok-read_file.ensures in
    record {
      within = omega (arith, within, long);
      unread = λ k d less. set-each (λ j f. j < at → IsNew f) c.files.files at c.read_file.new.file d within (λ h. absurd (omega arith))
          (λ j below apart h. inv.unread j d (omega (arith, h, low))) k (omega (arith, less, within)) less;
      sound = λ k d fault past less is. elim (cases_lt at k) [
        | inl behind ↦
            inv.sound k d fault (omega (arith, behind)) (omega (arith, less, long))
            (subst (λ (f : OwnFile _). f.end ≡ Stopped fault) (get_or-set_other c.files.files at k c.read_file.new.file d
            (λ e. absurd (omega (arith, behind, e)))) is)
        | inr upto ↦
            let here : k ≡ at = omega (arith, upto, past) in
            let stopped : (slice_index_or (set c.files.files at c.read_file.new.file) at d).end ≡ Stopped fault =
            subst (λ j. (slice_index_or (set c.files.files at c.read_file.new.file) j d).end ≡ Stopped fault) here is in
            let its_end : c.read_file.new.file.end ≡ Stopped fault =
            sym (ap (λ (f : OwnFile _). f.end) (get_or-set_same c.files.files at c.read_file.new.file d within)) ∙ stopped in
            absurd (c.in_default.not-Stopped fault
            (ap (λ (f : OwnFile _). f.end) (get_or-set_same c.files.files at c.read_file.new.file _ within) ∙ its_end))
      ];
      same = same-after g (goal.at.files-preserved g c).After-read_file;
      read = read-after g (goal.at.files-preserved g c).After-read_file;
      ready = g.met.H.Handler.stays_ready _ _ _ _ _ _ inv.ready its.handled;
      handled = handled-after g (goal.at.files-preserved g c).After-read_file its.handled;
      fed = λ fed. fed-after g (goal.at.files-preserved g c).After-read_file (inv.fed fed) (λ stopped. c.in_default.not-Stopped NoMemory
          (ap (λ (f : OwnFile _). f.end) (get_or-set_same c.files.files at c.read_file.new.file _ within) ∙ stopped));
    }

pub returns-clause-wanted : goal.returns-clause-wanted
returns-clause-wanted g c fed =
    let still = c.files.invariant.fed fed in
    (wants-none _ _ _ _ _ c.files.invariant.handled still, λ wants. absurd (true≢false (sym wants ∙ still)))
