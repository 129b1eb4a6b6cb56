-- Memory was wanted at the last of messages, if at all.
use Rattle.std.proofs.Common.{◌≡◌, ◌∙◌, sym, ap, arith, Bool, false, List, [], ◌∷◌, ◌++◌, append_assoc}
use Rattle.std.proofs.lemmas.List.{append-nil}
use Rattle.scq_frames.specs.declared.message.Message.{Message}
use Rattle.scq_files.specs.Exports.{WantsAtLast}

module _ {T H : Type 0} {wanted : H → Bool} {Handled : List Message → T → H → T → H → Type 0} where
  -- at none so far
  pub wants-none : (messages : List Message) (t s : T) (h i : H) → Handled messages t h s i → wanted i ≡ false
      → WantsAtLast wanted Handled messages t h
  wants-none messages t s h i handled fed = record {
    front = messages;
    last = [];
    all = sym (append-nil messages);
    one = omega arith;
    then_beside = s;
    then_is = i;
    handled = handled;
    fed = fed;
  }

  -- at one more
  pub wants-more : (messages all : List Message) (m : Message) (t s : T) (h i : H) → all ≡ messages ++ m ∷ [] → Handled messages t h s i
      → wanted i ≡ false → WantsAtLast wanted Handled all t h
  wants-more messages all m t s h i is handled fed = record {
    front = messages;
    last = m ∷ [];
    all = is;
    one = omega arith;
    then_beside = s;
    then_is = i;
    handled = handled;
    fed = fed;
  }

  -- behind others
  pub wants-behind : (messages more all : List Message) (t s : T) (h i : H) → all ≡ messages ++ more
      → ((front : List Message) (u : T) (j : H) → Handled front s i u j → Handled (messages ++ front) t h u j)
      → WantsAtLast wanted Handled more s i → WantsAtLast wanted Handled all t h
  wants-behind messages more all t s h i is joins its = record {
    front = messages ++ its.front;
    last = its.last;
    all = is ∙ ap (λ l. messages ++ l) its.all ∙ sym (append_assoc messages its.front its.last);
    one = its.one;
    then_beside = its.then_beside;
    then_is = its.then_is;
    handled = joins its.front its.then_beside its.then_is its.handled;
    fed = its.fed;
  }
