use Rattle.std.proofs.Common.{refl}
use Rattle.scq_band.specs.Exports.{mark_sight}
use Rattle.scq_band.proofs.RunShown.{splits_run}
use Rattle.scq_band.proofs.Views.{marks}
use Rattle.scq_band.proofs.marks.copy_seen.Goals as goal

pub split_seat-requires : goal.split_seat-requires
split_seat-requires g c =
    (c.requires.own, c.requires.room, splits_run _ _ _ _ _ (mark_sight c.args.token.now.me.0) refl refl (λ gone run. marks _ _ _ _))
