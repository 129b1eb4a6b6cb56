use Rattle.std.proofs.Common.{◌≡◌, ◌∙◌, []}
use Rattle.std.proofs.lemmas.List.{replicate_more}
use Rattle.scq_core.specs.declared.slot.Slot.{Slot}
use Rattle.scq_core.proofs.ring.unused.Goals as goal

pub loop-init : goal.loop-init
loop-init c = c.in_ok-reserve_exact.ensures.items ∙ c.new-slots.ensures.items

pub loop-preserved : goal.loop-preserved
loop-preserved c =
    let slot : Slot = record { word = c.pack-word.result; content = [] } in
    let empty : c.from.result ≡ [] = c.from.ensures ∙ c.new.ensures.items in
    let more = replicate_more c.loop.counter slot in cc (c.in_ok-push.ensures.items)
