use Rattle.std.proofs.Common.{ℕ, ◌<◌, ◌∙◌, sym, subst}
use Rattle.scq_band.proofs.RingWords.{guess_is}
use Rattle.scq_band.proofs.ring.Ring.guess.Goals as goal

pub returns : goal.returns
returns c k is =
    let t = c.args.ticket in
    let mark = c.from.result in
    guess_is k t mark (c.from.ensures ∙ is.mark) (subst (λ (n : ℕ). n < t) (sym c.from.ensures) c.requires.later)
