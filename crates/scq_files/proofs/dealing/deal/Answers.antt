use Rattle.std.proofs.Common.{◌≡◌, ◌∙◌, sym, ap, subst, refl, arith, ℕ, ◌+◌, ◌%◌, ◌<◌, ◌≤◌, List, [], ◌∷◌, length, take, drop, reverse, get_or, set}
use Rattle.std.specs.Prelude.{slice_index_or, vec_len, vec_capacity}
use Rattle.std.specs.List.{All}
use Rattle.std.proofs.lemmas.List.{drop_all, length-set, get_or_default, take_all}
use Rattle.std.proofs.lemmas.List.Elements.{All-nil, All-push}
use Rattle.scq_files.specs.Exports.{files_of, AreDealt, IsNew, ids_of}
use Rattle.scq_files.specs.declared.desk.Desk.{Desk}
use Rattle.scq_files.specs.declared.own_file.OwnFile.{OwnFile}
use Rattle.scq_files.proofs.Lists.{set-each, set-unseen}
use Rattle.scq_files.proofs.DeskLemmas.{laid, other-first, taken-apart}
use Rattle.scq_files.proofs.dealing.deal.Goals as goal

pub sources-init : goal.sources-init
sources-init g c =
    let sources = c.args.sources.now in
    let n = vec_len sources in
    let desks = c.args.desks.now in
    let past : drop n sources.items ≡ [] = drop_all n sources.items (omega (arith, sources.ok.0)) in
    record {
      long = refl;
      few = omega arith;
      front = sym (take_all n sources.items (omega (arith, sources.ok.0)));
      capacity = refl;
      dealt = λ w d less. ap ids_of (c.requires.empty w d less).0
          ∙ ap (λ (rest : List g.row.S.Denot). reverse (files_of (length desks) w (n + 1) rest)) (sym past);
      unread = λ w d less. subst (All IsNew) (sym (c.requires.empty w d less).0) (All-nil IsNew);
      same = refl;
      room = λ w d less. omega (arith, (c.requires.empty w d less).1, (c.requires.empty w d less).2);
    }

pub sources-preserved : goal.sources-preserved
sources-preserved g c =
    let S = g.row.S.Denot in
    let W = g.row.W.Denot in
    let inv = c.sources.invariant in
    let src = c.args.sources.now.items in
    let desks = c.sources.desks in
    let workers = length desks in
    let at = c.len-at.result in
    let n = vec_len c.sources.sources in
    let x = c.in-Some.source in
    let left = c.pop.new.self in
    let is_at : at ≡ vec_len left = c.len-at.ensures in
    let next : at + 1 ≡ n = omega (arith, is_at, c.in-Some.ensures.cases) in
    let parts = taken-apart src left.items x n at (sym inv.front ∙ c.in-Some.ensures.items) next (omega (arith, inv.few, c.args.sources.now.ok.0)) in
    let j = at % length c.args.desks.now in
    let some : 0 < length desks = omega (arith, inv.long, c.requires.some) in
    let within : j < length desks = omega (arith, inv.long, c.requires.some) in
    let desk = c.index-desks-at.result in
    let new = c.lay.new.self in
    let changed = set desks j new in
    let long = length-set desks j new in
    let old : (d : Desk W S) → get_or desks j desk ≡ get_or desks j d = λ d. get_or_default desks j desk d within in
    let dealt_old : AreDealt (at + 1 + 1) (drop (at + 1) src) desks = subst (λ k. AreDealt (k + 1) (drop k src) desks) (sym next) inv.dealt in
    let mine : j ≡ at % workers = ap (λ m. at % m) (sym inv.long) in
    let dealt_here : ids_of new.files.items ≡ reverse (files_of workers j (at + 1) (x ∷ drop (at + 1) src)) =
    ap ids_of c.lay.ensures.files
    ∙ laid workers j at (get_or desks j desk).files.items c.new-file.result x (drop (at + 1) src) (sym mine)
    (c.new-file.ensures.number ∙ ap (λ m. m + 1) refl) c.new-file.ensures.was (dealt_old j desk within) in
    let dealt : (w : ℕ) (d : Desk W S) → w < length changed
    → ids_of (slice_index_or changed w d).files.items ≡ reverse (files_of workers w (at + 1) (x ∷ drop (at + 1) src)) =
    λ w d less. set-each (λ v (e : Desk W S). ids_of e.files.items ≡ reverse (files_of workers v (at + 1) (x ∷ drop (at + 1) src))) desks j new d
    within dealt_here
    (λ v below apart. dealt_old v d below ∙ ap reverse (sym (other-first workers v at x (drop (at + 1) src) (λ e. apart (sym e ∙ sym mine))))) w
    (omega (arith, less, long)) in
    record {
      long = long ∙ inv.long;
      few = omega (arith, is_at, next, inv.few);
      front = parts.0 ∙ ap (λ k. take k src) is_at;
      capacity = c.pop.ensures.capacity ∙ inv.capacity;
      dealt = subst (λ k. AreDealt (k + 1) (drop k src) changed) is_at
          (λ w d less. subst (λ rest. ids_of (slice_index_or changed w d).files.items ≡ reverse (files_of (length changed) w (at + 1) rest)) (sym parts.1)
          (subst (λ m. ids_of (slice_index_or changed w d).files.items ≡ reverse (files_of m w (at + 1) (x ∷ drop (at + 1) src))) (sym long) (dealt w d less)));
      unread = λ w d less. set-each (λ v (e : Desk W S). All IsNew e.files.items) desks j new d within
          (subst (λ (fs : List (OwnFile S)). All IsNew fs) (sym c.lay.ensures.files)
          (All-push IsNew (get_or desks j desk).files.items c.new-file.result (inv.unread j desk within)
          (record { source = c.new-file.ensures.source ∙ sym c.new-file.ensures.was; given = c.new-file.ensures.given; end = c.new-file.ensures.end })))
          (λ v below apart. inv.unread v d below) w (omega (arith, less, long));
      same = set-unseen (λ (e : Desk W S). e.worker) desks j new desk within c.lay.ensures.same ∙ inv.same;
      room = λ w d less. set-each (λ v (e : Desk W S). vec_len e.files + vec_len left ≤ vec_capacity e.files) desks j new d within
          (omega (arith, c.lay.ensures.len, c.lay.ensures.capacity, inv.room j desk within, is_at, next))
          (λ v below apart. omega (arith, inv.room v d below, is_at, next)) w (omega (arith, less, long));
    }
