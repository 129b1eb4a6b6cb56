use Rattle.std.proofs.Common.{◌≡◌, suc, [], refl, ◌∙◌, ap}
use Rattle.std.specs.Prelude.{None}
use Rattle.scq_core.specs.Exports.{idle_part}
use Rattle.scq_band.specs.Exports.{LiesIn, first_members, sight_below, Sight, others_sight, first_sight_of}
use Rattle.scq_band.proofs.RunShown.{splits_run}
use Rattle.scq_band.proofs.Views.{peels}
use Rattle.scq_band.proofs.Starting.{first_kept}
use Rattle.scq_band.proofs.splitting.peel.Goals as goal

pub split_seat-requires : goal.split_seat-requires
split_seat-requires g c =
    let k = c.args.words.now.key in
    let Lie = LiesIn g.B.Buffer.contents g.B.Buffer.IsSameBuffer k.given.value.items in
    let v = c.args.rest.now.me.0 in
    let n = c.requires.some.0 in (
      c.requires.own.0,
      c.requires.words,
      splits_run Lie k.setup c.args.rest.now.id v (others_sight v) (first_sight_of v) refl refl
          (λ gone run. peels Lie k.setup c.args.rest.now.id v.known (record { number = n; part = idle_part; retired = None; brought = [] }) (first_members n)
          (ap (λ (w : Sight). w.known.seats) c.requires.some.1)),
    )

pub invariant_of-result : goal.invariant_of-result
invariant_of-result g c =
    let key = c.args.key.now in
    let n = c.requires.some.0 in
    let split : c.split_seat.result.me ≡ (first_sight_of (sight_below key.setup (suc n)), []) = c.split_seat.ensures.4
    ∙ ap (λ v. (first_sight_of v, [])) c.requires.some.1 in
    rw (c.of.ensures, split) (first_kept g.B.Buffer.IsSameBuffer key n c.args.room c.requires.room)
