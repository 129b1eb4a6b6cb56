use Rattle.std.proofs.Common.{◌≡◌, ◌+◌, ◌*◌, ◌∙◌, false, inl, inr}
use Rattle.std.specs.Int.Bits.{bit_and}
use Rattle.std.specs.Prelude.{IsTrue}
use Rattle.std.proofs.lemmas.Bool.Decides.{eqb_tells}
use Rattle.scq_band.proofs.RingWords.{plainly_vacant}
use Rattle.scq_band.proofs.ring.Ring.is_plainly_vacant.Goals as goal

pub returns-then-entry-new : goal.returns-then-entry-new
returns-then-entry-new c holds k is ticket filled =
    let all = 2 * c.from.result + 1 in
    let set : bit_and c.args.entry all ≡ all =
    elim (eqb_tells (bit_and c.args.entry all) all) [ inl same ↦ same.1 | inr other ↦ let never : IsTrue false = rw other.0 at holds in absurd (cc) ] in
    plainly_vacant k ticket c.args.entry c.args.new c.from.result (c.from.ensures ∙ is.mark) filled c.if-entry-new.true set
