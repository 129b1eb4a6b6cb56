-- What proofs and other crates import of these files.
pub use Rattle.scq_park.specs.Rule.{Deeds, deeds, once_woken, once_rested, added, one_part_less}
pub use Rattle.scq_park.specs.Rule.{total_deeds, worth, IsIdleWithoutPart, AreIdleWithoutPart}
pub use Rattle.scq_park.specs.Rule.{IsCovered}
pub use Rattle.scq_park.specs.Crews.{Post, post, woken, no_wakes, first_post, first_posts}
pub use Rattle.scq_park.specs.Crews.{with_wake, AreInWorkerOrder, AreAll, counted, plus, rested_of}
pub use Rattle.scq_park.specs.Crews.{ended}
pub use Rattle.scq_park.specs.Kept.{ParkerDeeds, parker_deeds, parkers_of, one_rested, IsLink}
pub use Rattle.scq_park.specs.Kept.{post_of, IsStand, first_link, with_part_less, cut_below, AreFor}
pub use Rattle.scq_park.specs.Kept.{with_row, gathered, told, told_by_post, CanEnd, EachEnds}
pub use Rattle.scq_park.specs.Kept.{rests_between}
