use Rattle.std.proofs.Common.{◌≡◌, ◌≤◌, ◌∙◌, sym, ap, subst, map, length, arith}
use Rattle.scq_law.specs.Exports.{times}
use Rattle.scq_band.specs.Known.{Known}
use Rattle.scq_band.specs.Exports.{known_me, my, Identity, indices_of, lifted_of, times_lifted, IsMemberOf, HoldsLifted}
use Rattle.scq_band.specs.Standing.{Standing}
use Rattle.scq_core.proofs.Entries.{few_indices}
use Rattle.scq_band.proofs.SeatsHome.{lifted_as, are_holes, may_leave, leaves_alone, is_member, out_or_home}
use Rattle.scq_band.proofs.closing.bring_seat_home.Goals as goal

pub bring_all-requires-clause-may : goal.bring_all-requires-clause-may
bring_all-requires-clause-may g c κs within =
    let s = c.seat.inside in
    let Same = g.B.Buffer.IsSameBuffer in
    let buffers = c.args.words.now.key.given.value.items in
    let same : buffers ≡ s.key.value.given.value.items =
    sym (ap (λ (b : Identity g.row.B.Denot). b.given) (ap (λ (t : Standing g.row.B.Denot). t.band) c.seat.view_is ∙ c.requires.band)) in
    may_leave Same s.key.value (known_me s.token.me) s.held.items s.numbers.items s.spent c.seat.invariant buffers
    (map g.T.Lifted.pair c.args.out.now.items) same
    c.requires.given
    (λ i. subst (λ (t : Standing g.row.B.Denot). times i (lifted_of t.hand) ≤ times i (indices_of (map g.T.Lifted.pair c.args.out.now.items)))
    (sym c.seat.view_is)
    (c.requires.lifted i))

pub bring_all-requires-clause-holes : goal.bring_all-requires-clause-holes
bring_all-requires-clause-holes g c κs within all =
    let s = c.seat.inside in
    are_holes _ s.key.value (known_me s.token.me) s.held.items s.numbers.items s.spent c.seat.invariant
    (subst (λ (t : Standing g.row.B.Denot). HoldsLifted t) (sym c.seat.view_is) (c.requires.holes all))

pub bring_all-requires-clause-noted : goal.bring_all-requires-clause-noted
bring_all-requires-clause-noted g c κs within = c.seat.invariant.slots

pub bring_all-requires-clause-few : goal.bring_all-requires-clause-few
bring_all-requires-clause-few g c κs within =
    let each = c.seat.invariant.each in
    let whole = c.seat.inside.held.ok in
    let few = few_indices c.seat.inside.key.value.setup in
    omega (arith, each, whole, few)

pub returns-clause-member : goal.returns-clause-member
returns-clause-member g c =
    let s = c.seat.inside in
    let member = is_member _ s.key.value _ _ _ _ c.seat.invariant _ _ _ _ c.bring_all.ensures.home s.token.me.0.seen s.token.table_id
    c.bring_all.ensures.none in
    subst (λ (t : Standing g.row.B.Denot). IsMemberOf g.B.Buffer.contents t (my c.bring_all.new.token.me.0.known)) c.seat.view_is member

pub returns-clause-home : goal.returns-clause-home
returns-clause-home g c = out_or_home _ _ _ _ _ _ c.seat.invariant _ _ _ _ c.bring_all.ensures.home

pub returns-clause-alone : goal.returns-clause-alone
returns-clause-alone g c = leaves_alone _ _ _ _ _ _ c.seat.invariant _ _ _ _ c.bring_all.ensures.home

pub returns-clause-numbers : goal.returns-clause-numbers
returns-clause-numbers g c =
    let view = c.bring_all.ensures.home.view in
    let is = c.seat.view_is in (
      ap (λ (v : Known). v.numbers) view ∙ ap (λ (t : Standing g.row.B.Denot). t.numbers) is,
      ap (λ (t : Standing g.row.B.Denot). length t.numbers) (sym is) ∙ ap length (sym c.seat.invariant.numbers) ∙ c.seat.invariant.rings
          ∙ ap (λ (b : Identity g.row.B.Denot). b.setup.rings) (ap (λ (t : Standing g.row.B.Denot). t.band) is ∙ c.requires.band),
    )

pub returns-clause-gate : goal.returns-clause-gate
returns-clause-gate g c =
    ap (λ (v : Known). v.gate) c.bring_all.ensures.home.view ∙ ap (λ (t : Standing g.row.B.Denot). t.gate) c.seat.view_is

pub returns-clause-less : goal.returns-clause-less
returns-clause-less g c i =
    let lifted = lifted_as _ _ _ _ _ _ c.seat.invariant i in
    let all = c.bring_all.ensures.less i in
    let hand : times i (lifted_of c.args.seat.hand) ≡ times_lifted i c.seat.inside.token.me.1 =
    ap (λ (t : Standing g.row.B.Denot). times i (lifted_of t.hand)) (sym c.seat.view_is) ∙ lifted in
    omega (arith, all, hand)
