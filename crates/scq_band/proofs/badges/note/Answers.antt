use Rattle.std.proofs.Common.{refl}
use Rattle.scq_band.specs.Exports.{note_sight}
use Rattle.scq_band.proofs.RunShown.{splits_run}
use Rattle.scq_band.proofs.Views.{copies}
use Rattle.scq_band.proofs.badges.note.Goals as goal

pub split_seat-requires : goal.split_seat-requires
split_seat-requires g c =
    (c.requires.own, c.requires.room, splits_run _ _ _ _ _ (note_sight c.args.token.now.me.0) refl refl (λ gone run. copies _ _ _ _))
