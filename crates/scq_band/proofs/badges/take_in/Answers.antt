use Rattle.std.proofs.Common.{refl}
use Rattle.scq_band.specs.Exports.{both_sight, spent_sight}
use Rattle.scq_band.proofs.RunShown.{joins_run}
use Rattle.scq_band.proofs.Views.{joins}
use Rattle.scq_band.proofs.badges.take_in.Goals as goal

pub join_seat-requires : goal.join_seat-requires
join_seat-requires g c =
    let v = c.args.token.now.me.0 in
    let w = c.args.other.me.0 in (
      c.requires.own.0,
      c.requires.own.1,
      c.requires.empty,
      c.requires.room,
      joins_run _ _ _ v _ w (both_sight v w) spent_sight refl refl (λ gone run. joins _ _ _ _ _ _ c.requires.stands),
    )
