use Rattle.std.proofs.Common.{rules, ◌≡◌, ◌∙◌, sym, ap, subst, refl, arith, ℕ, ◌+◌, ◌%◌, ◌<◌, List, [], ◌∷◌, ◌++◌, length, map, drop, reverse, get_or, set}
use Rattle.std.specs.Prelude.{slice_index_or}
use Rattle.std.specs.List.{All}
use Rattle.std.proofs.lemmas.List.{drop_all, length-set, length-drop, length-map, get_or_default, get_or-map, map-append, map-set}
use Rattle.scq_files.specs.Exports.{AllEnded, AreDealt, files_of, StopsAtAFault, ids_of, EndsSo}
use Rattle.std.proofs.lemmas.List.Elements.{All-map}
use Rattle.scq_files.specs.declared.desk.Desk.{Desk}
use Rattle.scq_files.specs.declared.own_file.OwnFile.{OwnFile}
use Rattle.scq_files.proofs.Cleared.{whole-more, none-left}
use Rattle.scq_files.proofs.Lists.{all-front, all-last, set-each, set-unseen}
use Rattle.scq_files.proofs.DeskLemmas.{desk-empty, drop-at, other-first, own-first}
use Rattle.scq_files.proofs.InTurn.{InTurn, in-turn-first, in-turn-more, in-turn-last}
use Rattle.scq_files.proofs.SoFar.{snoc-parts, so-far-more}
use Rattle.scq_files.proofs.gathering.gather.Goals as goal
use Rattle.scq_files.proofs.gathering.gather.Goals.{in-Some, in_default}

pub files-init : goal.files-init
files-init g c =
    let desks = c.args.desks.now in
    let lists : Desk g.row.W.Denot g.row.S.Denot → List (OwnFile g.row.S.Denot) = λ d. d.files.items in
    record {
      long = refl;
      dealt = c.requires.dealt;
      ended = λ size each. each;
      count = c.requires.empty.1;
      capacity = refl;
      so_far = λ size each. search rules;
      in_turn = λ size each stop. rw c.requires.empty.0
          (in-turn-first (length desks) size g.S.Source c.args.was.now.value.items (map lists desks) (All-map StopsAtAFault lists desks stop));
      whole = λ none each. each;
      same = refl;
    }

pub files-preserved : goal.files-preserved
files-preserved g c =
    let S = g.row.S.Denot in
    let W = g.row.W.Denot in
    let inv = c.files.invariant in
    let src = g.S.Source in
    let was = c.args.was.now.value.items in
    let desks = c.files.desks in
    let workers = length desks in
    let at = c.files.at in
    let j = at % length c.args.desks.now in
    let some : 0 < length desks = omega (arith, inv.long, c.requires.some) in
    let within : j < length desks = omega (arith, inv.long, c.requires.some) in
    let inside : at < length was = omega (arith, c.files-test.true, c.requires.count.0, c.args.was.now.value.ok.0) in
    let desk = c.index-desks-at.result in
    let new = c.lift.new.self in
    let changed = set desks j new in
    let long = length-set desks j new in
    let mine : j ≡ at % workers = ap (λ m. at % m) (sym inv.long) in
    let IsOf : S → List (Desk W S) → Type 0 = λ x ds. (w : ℕ) (d : Desk W S) → w < length ds
    → ids_of (slice_index_or ds w d).files.items ≡ reverse (files_of (length ds) w (at + 1) (x ∷ drop (at + 1) was)) in
    let lists : Desk W S → List (OwnFile S) = λ d. d.files.items in
    let first : (x : S) → slice_index_or was at x ≡ slice_index_or was at x = λ x. refl in
    elim c.match-lift.branch [
      | in-Some w ↦
          let file = w.in-Some.file in
          let x = get_or was at file.was.value in
          let split = drop-at was at file.was.value inside in
          let dealt : (v : ℕ) (d : Desk W S) → v < length desks
          → ids_of (slice_index_or desks v d).files.items ≡ reverse (files_of workers v (at + 1) (x ∷ drop (at + 1) was)) =
          subst (λ rest. (v : ℕ) (d : Desk W S) → v < length desks
          → ids_of (slice_index_or desks v d).files.items ≡ reverse (files_of workers v (at + 1) rest)) split inv.dealt in
          let there = dealt j desk within in
          let is = w.in-Some.ensures.some in
          let ends = sym (map-append (λ (f : OwnFile S). (f.number, f.was.value)) new.files.items (file ∷ [])) ∙ ap ids_of (sym is) ∙ there
          ∙ own-first workers j at x (drop (at + 1) was) (sym mine) in
          let parts = snoc-parts (ids_of new.files.items) (reverse (files_of workers j (at + 1 + 1) (drop (at + 1) was))) (file.number, file.was.value)
          (at + 1, x) ends in
          let number : file.number ≡ at + 1 = ap (λ (p : ℕ × S). p.0) parts.1 in
          let source : file.was.value ≡ x = ap (λ (p : ℕ × S). p.1) parts.1 in
          let EndedSo : ℕ → OwnFile S → Type 0 = λ size f. EndsSo size src f.was.value f.source f.end in
          let all_ended : (size : ℕ) → AllEnded size src c.args.desks.now → All (EndedSo size) (new.files.items ++ file ∷ []) = λ size each.
          subst (λ (fs : List (OwnFile S)). All (EndedSo size) fs) is (inv.ended size each j desk within) in
          let took = w.take_in.ensures in
          rw w.gathered-is (record {
            long = long ∙ inv.long;
            dealt = λ v d less.
                subst (λ m. ids_of (slice_index_or changed v d).files.items ≡ reverse (files_of m v (at + 1 + 1) (drop (at + 1) was))) (sym long)
                (set-each (λ u (e : Desk W S). ids_of e.files.items ≡ reverse (files_of workers u (at + 1 + 1) (drop (at + 1) was))) desks j new d
                within parts.0
                (λ u below apart. dealt u d below ∙ ap reverse (other-first workers u at x (drop (at + 1) was) (λ e. apart (sym e ∙ sym mine)))) v
                (omega (arith, less, long)));
            ended = λ size each v d less. set-each (λ u (e : Desk W S). All (EndedSo size) e.files.items) desks j new d within
                (all-front (EndedSo size) new.files.items file (all_ended size each))
                (λ u below apart. inv.ended size each u d below) v (omega (arith, less, long));
            count = omega (arith, inv.count, took.len);
            capacity = took.capacity ∙ inv.capacity;
            so_far = λ size each. rw (took.sources, took.fault, took.starved)
                (so-far-more size src was at c.files.gathered.sources.items c.files.gathered.fault
                c.files.gathered.starved file.was.value file.source file.number file.end (inv.so_far size each) inside number
                (λ d. get_or_default was at d file.was.value inside ∙ sym source) (all-last (EndedSo size) new.files.items file (all_ended size each)));
            in_turn = λ size each stop. rw took.sources
                (subst (InTurn (length c.args.desks.now) size src was (at + 1) (c.files.gathered.sources.items ++ file.source ∷ []))
                (sym (map-set lists desks j new))
                (in-turn-more (length c.args.desks.now) size src was at j c.files.gathered.sources.items (map lists desks) new.files.items file
                (lists desk) (inv.so_far size each).count (omega (arith, within, length-map desks lists)) refl
                (get_or-map lists desks j desk (lists desk) within ∙ is) (λ d. get_or_default was at d file.was.value inside ∙ sym source)
                (all-last (EndedSo size) new.files.items file (all_ended size each)) (inv.in_turn size each stop)));
            whole = λ none each. whole-more desks j new desk file c.files.gathered.fault within is (sym took.fault ∙ none) inv.whole each;
            same = set-unseen (λ (e : Desk W S). e.worker) desks j new desk within c.lift.ensures.same ∙ inv.same;
          })
      | in_default w ↦
          let none = w.in_default.ensures.none in
          absurd (desk-empty workers j at (drop at was) (omega (arith, inside, length-drop at was)) (sym mine) (sym (ap ids_of none) ∙ inv.dealt j desk within))
    ]

pub returns-clause-whole : goal.returns-clause-whole
returns-clause-whole g c none =
    let S = g.row.S.Denot in
    let inv = c.files.invariant in
    let was = c.args.was.now.value.items in
    let past : drop c.files.at was ≡ [] = drop_all c.files.at was (omega (arith, c.files-test.false, c.requires.count.0, c.args.was.now.value.ok.0)) in
    inv.whole none (none-left (c.files.at + 1) c.files.desks (subst (λ (rest : List S). AreDealt (c.files.at + 1) rest c.files.desks) past inv.dealt))

pub returns-clause-stops : goal.returns-clause-stops
returns-clause-stops g c size each stop =
    let was = c.args.was.now.value.items in
    let all : c.files.at ≡ length was = omega (arith, c.files-test.false, c.requires.count.0, c.args.was.now.value.ok.0) in
    in-turn-last (length c.args.desks.now) size g.S.Source was c.files.at c.files.gathered.sources.items
    (map (λ d. d.files.items) c.files.desks) all (c.files.invariant.in_turn size each stop)

pub returns-clause-gathered : goal.returns-clause-gathered
returns-clause-gathered g c size each =
    let inv = c.files.invariant in
    let so_far = inv.so_far size each in
    let all : c.files.at ≡ length c.args.was.now.value.items = omega (arith, c.files-test.false, c.requires.count.0, c.args.was.now.value.ok.0) in
    record {
      count = so_far.count ∙ all;
      moved = λ k d less. so_far.moved k d (omega (arith, less, all));
      sound = λ none k d less. so_far.sound none k d (omega (arith, less, all));
      cause = λ file fault is other. (so_far.cause file fault is other).1;
      fed = λ none k d less. so_far.fed none k d (omega (arith, less, all));
    }
