use Rattle.std.proofs.Common.{◌≡◌, ◌++◌, [], ◌∷◌, reverse, sym, ◌∙◌, ap, subst, arith}
use Rattle.std.proofs.lemmas.List.{reverse-append, append_assoc}
use Rattle.scq_band.specs.Slots.{SlotStanding}
use Rattle.scq_band.specs.Exports.{lifted, AllLaid}
use Rattle.scq_band.proofs.StartWords.{laid-prefix, laid-last, lifted-snoc}
use Rattle.scq_band.proofs.making.lift_all.Goals as goal

pub loop-slot-preserved : goal.loop-slot-preserved
loop-slot-preserved g c =
    let rest = c.pop.new.self.items in
    let slot = c.in-Some.slot in
    let b = c.lift.result in
    let was : c.loop-slot.slots.items ≡ rest ++ slot ∷ [] = c.in-Some.ensures.items in
    let bs = c.loop-slot.buffers.items in
    let pushed : c.push_reserved.new.self.items ≡ bs ++ b ∷ [] = c.push_reserved.ensures.items in
    let turned : reverse c.push_reserved.new.self.items ≡ b ∷ reverse bs = ap reverse pushed ∙ reverse-append bs (b ∷ []) in
    let all : lifted c.loop-slot.slots.items ≡ lifted rest ++ b ∷ [] = ap lifted was ∙ lifted-snoc rest slot b (ap (λ (s : SlotStanding g.row.B.Denot). s.buffer) c.lift.ensures) in (
      laid-prefix rest (slot ∷ []) (subst AllLaid was c.loop-slot.invariant.0),
      ap (λ zs. lifted rest ++ zs) turned ∙ sym (append_assoc (lifted rest) (b ∷ []) (reverse bs)) ∙ ap (λ zs. zs ++ reverse bs) (sym all)
          ∙ c.loop-slot.invariant.1,
      (let few = c.loop-slot.invariant.2 in
          let less = c.in-Some.ensures.len in
          let more = c.push_reserved.ensures.len in
          let same = c.push_reserved.ensures.capacity in
          omega arith),
    )

pub lift-requires-after_bounds : goal.lift-requires-after_bounds
lift-requires-after_bounds g c κs within =
    laid-last c.pop.new.self.items c.in-Some.slot (subst AllLaid c.in-Some.ensures.items c.loop-slot.invariant.0)
