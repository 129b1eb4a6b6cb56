use Rattle.std.proofs.Common.{◌/◌, ◌∙◌, true, false, inl, inr}
use Rattle.std.specs.Int.Bits.{bit_xor}
use Rattle.std.specs.Prelude.{IsTrue, IsFalse}
use Rattle.std.proofs.lemmas.Bool.Decides.{leb_tells}
use Rattle.scq_band.proofs.RingWords.{of_cycle, not_of_cycle}
use Rattle.scq_band.proofs.ring.Ring.is_of_cycle.Goals as goal

pub returns-clause-own : goal.returns-clause-own
returns-clause-own c holds k is =
    let x = c.args.entry in
    let t = c.args.ticket in
    elim (leb_tells (bit_xor (x / 2) t) c.from.result) [
      | inl low ↦ of_cycle k x t c.from.result (c.from.ensures ∙ is.mark) low.1
      | inr high ↦ let never : IsTrue false = rw high.0 at holds in absurd (cc)
    ]

pub returns-clause-other : goal.returns-clause-other
returns-clause-other c fails k is =
    let x = c.args.entry in
    let t = c.args.ticket in
    elim (leb_tells (bit_xor (x / 2) t) c.from.result) [
      | inl low ↦ let never : IsFalse true = rw low.0 at fails in absurd (cc)
      | inr high ↦ not_of_cycle k x t c.from.result (c.from.ensures ∙ is.mark) high.1
    ]
