use Rattle.std.proofs.Common.{◌≡◌, ◌∙◌, refl, ap, arith, zero, suc, ℕ, ◌+◌, ◌≤◌, List, ◌++◌, length, take, drop}
use Rattle.scq_stages.specs.Exports.{redacted, squeezed, stages_left}
use Rattle.scq_stages.proofs.Handlings.{redacted-there}
use Rattle.scq_stages.proofs.handling.finish_behind.Goals as goal
use Rattle.scq_stages.proofs.handling.finish_behind.Goals.{then-topic-eq-FIRST, else-topic-eq-FIRST}

-- what was taken from first was redacted before it was squeezed
both-left : (topic len : ℕ) (old mid left : List ℕ) → 24 + len ≤ length old → topic ≡ 0
    → mid ≡ take 24 old ++ (redacted (take len (drop 24 old)) ++ drop len (drop 24 old)) → left ≡ squeezed (take len (drop 24 mid))
    → left ≡ stages_left topic (take len (drop 24 old))
both-left zero len old mid left room first is so = so ∙ ap squeezed (redacted-there old mid len room is)
both-left (suc topic) len old mid left room first is so = absurd (omega (arith, first))

-- and what was taken from second was squeezed as it was
second-left : (topic len : ℕ) (old mid left : List ℕ) → (topic ≡ 0 → ⊥) → mid ≡ old → left ≡ squeezed (take len (drop 24 mid))
    → left ≡ stages_left topic (take len (drop 24 old))
second-left zero len old mid left other is so = absurd (other refl)
second-left (suc topic) len old mid left other is so = so ∙ ap (λ (l : List ℕ). squeezed (take len (drop 24 l))) is

pub returns-clause-left : goal.returns-clause-left
returns-clause-left c =
    elim c.if-topic-eq-FIRST.branch [
      | then-topic-eq-FIRST w ↦
          both-left c.args.topic c.args.len c.args.bytes.now c.if-topic-eq-FIRST.bytes _ c.requires w.if-topic-eq-FIRST.true
          (w.bytes-is ∙ w.redact_behind.ensures.redacted) c.squeeze_behind.ensures.left
      | else-topic-eq-FIRST w ↦
          second-left c.args.topic c.args.len c.args.bytes.now c.if-topic-eq-FIRST.bytes _ w.if-topic-eq-FIRST.false w.bytes-is c.squeeze_behind.ensures.left
    ]
