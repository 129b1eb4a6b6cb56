-- For private calls: what a sequential queue holds
use Rattle.std.specs.Prelude.{◌≡◌, ℕ, suc, List, [], ◌∷◌, map}
use Rattle.scq_hist.specs.declared.events.PutName.{PutName}
use Rattle.scq_hist.specs.declared.events.PutName.TheVariants.{Opening, Of}
use Rattle.scq_order.specs.Exports.{plain_reply, plain_after}
use Rattle.scq_judge.specs.declared.own_calls.EndedCall.{EndedCall}
use Rattle.scq_judge.specs.declared.sequential.Sequential.{Sequential}

abbrev pub held_by : Sequential → List (PutName × List ℕ)
held_by queue = map (λ held. (held.name, held.content.now)) queue.held.items

-- the opening tokens with these contents, from number j on
abbrev pub held_from : ℕ → List (List ℕ) → List (PutName × List ℕ)
held_from j [] = []
held_from j (content ∷ more) = (Opening j, content) ∷ held_from (suc j) more

-- the reply of this call is that of a queue which holds the old puts, and then the new ones
pub record IsPlain (old : List (PutName × List ℕ)) (ended : EndedCall)
    (new : List (PutName × List ℕ)) : Type 0 where
  pub reply : ended.reply.now ≡ plain_reply old ended.call.now
  pub after : new ≡ plain_after old (Of ended.seat ended.own.put) ended.call.now
