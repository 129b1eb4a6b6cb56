-- What each view knows is true of the words: the rule says it of the state, and the words show the state.
use Rattle.std.proofs.Common.{ℕ, ◌<◌, ◌≤◌, List, sym, subst}
use Rattle.scq_word.specs.declared.setup.Setup.{Setup}
use Rattle.scq_core.specs.Exports.{tail_of, head_of}
use Rattle.scq_band.specs.Exports.{EachViewKnowsTruth}

pub each_knows : {S : Type 0} (Lies : ℕ → S → List ℕ → Type 0) (opening : List (List ℕ)) (c : Setup) → EachViewKnowsTruth Lies opening c
each_knows Lies opening c gone run s shown id v here =
    let view = shown.views id v here in
    record {
      head = λ r x low is. subst (λ (n : ℕ). x.head ≤ n) (sym (shown.words.shows (head_of r) (low, tt))) (view.numbers r x is).head;
      seen = λ r x low is. subst (λ (n : ℕ). x.seen < n) (sym (shown.words.shows (tail_of r) (low, tt))) (view.numbers r x is).seen;
      finished = λ r x is. (view.numbers r x is).finished;
      gate = view.last_gate;
    }
