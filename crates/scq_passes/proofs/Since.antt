-- The calls that a pass made meanwhile, and which places it took from.
use Rattle.std.proofs.Common.{◌≡◌, sym, ◌∙◌, ap, subst, arith, ℕ, ◌≤◌, List, [], ◌∷◌, ◌++◌, length, drop, append_assoc, ⊎_elim, rules}
use Rattle.std.specs.List.{Contains}
use Rattle.std.proofs.lemmas.List.Elements.{Contains-append_cases, Contains-push_cases}
use Rattle.std.proofs.Math.Seq.{drop-append_seam}
use Rattle.scq_core.specs.declared.ended.Ended.{Ended}
use Rattle.scq_queue.specs.Exports.{Placed, takes_of, PassStanding, known_on}
use Rattle.scq_queue.proofs.Records.{takes-append}
use Rattle.scq_passes.specs.Exports.{on, Puts, KnowsMore, HasTakenFollowed, since, taken_since, TookNoneBelow}
use Rattle.scq_passes.proofs.Kept.{taken-calls}
use Rattle.scq_passes.proofs.OnTopics.{on-append}

module _ {B : Type 0} where
  -- the calls that stand behind
  pub since-of : (p q : PassStanding B) (block : List Ended) → q.calls ≡ p.calls ++ block → since p q ≡ block
  since-of p q block is = ap (drop (length p.calls)) is ∙ drop-append_seam p.calls block

  pub since-taken : {By : Puts} (p q : PassStanding B) (h : HasTakenFollowed By p q) → since p q ≡ h.block
  since-taken p q h = since-of p q h.block (taken-calls p q h)

  -- of two steps, one behind the other
  pub since-along : (p q r : PassStanding B) (one more : List Ended) → q.calls ≡ p.calls ++ one → r.calls ≡ q.calls ++ more
      → since p r ≡ since p q ++ since q r
  since-along p q r one more first next =
      since-of p r (one ++ more) (next ∙ ap (λ (l : List Ended). l ++ more) first ∙ append_assoc p.calls one more)
      ∙ ap (λ (l : List Ended). l ++ more) (sym (since-of p q one first)) ∙ ap (λ (l : List Ended). since p q ++ l) (sym (since-of q r more next))

  pub since-takes : {By More : Puts} (p q r : PassStanding B) → HasTakenFollowed By p q → HasTakenFollowed More q r → since p r ≡ since p q ++ since q r
  since-takes p q r one more = since-along p q r one.block more.block (taken-calls p q one) (taken-calls q r more)

  -- of two steps, what was taken from a topic
  pub since-taken_on : (topic : ℕ) (p q r : PassStanding B) → since p r ≡ since p q ++ since q r
      → taken_since topic p r ≡ taken_since topic p q ++ taken_since topic q r
  since-taken_on topic p q r split =
      ap (λ l. on topic (takes_of l)) split ∙ ap (on topic) (takes-append (since p q) (since q r))
      ∙ on-append topic (takes_of (since p q)) (takes_of (since q r))

  -- nothing was taken from the topic
  pub none_below-nothing : (topic : ℕ) (p q : PassStanding B) → taken_since topic p q ≡ [] → TookNoneBelow topic p q
  none_below-nothing topic p q none m has = let no : Contains [] m = subst (λ l. Contains l m) none has in absurd (search rules)

  -- this alone was, not below the head known
  pub none_below-one : (topic : ℕ) (p q : PassStanding B) (m : Placed) → taken_since topic p q ≡ m ∷ [] → (known_on topic p).head ≤ m.place
      → TookNoneBelow topic p q
  none_below-one topic p q m one high n has =
      ⊎_elim (λ (h : Contains [] n). absurd (search rules)) (λ (is : m ≡ n). subst (λ (x : Placed). (known_on topic p).head ≤ x.place) is high)
      (Contains-push_cases [] m n (subst (λ l. Contains l n) one has))

  -- one step behind the other
  pub none_below-along : (topic : ℕ) (p q r : PassStanding B) → KnowsMore p q → since p r ≡ since p q ++ since q r → TookNoneBelow topic p q
      → TookNoneBelow topic q r
      → TookNoneBelow topic p r
  none_below-along topic p q r knows split one more m has =
      ⊎_elim (λ (h : Contains (taken_since topic p q) m). one m h)
      (λ (h : Contains (taken_since topic q r) m).
      let low = knows.head topic in
      let high = more m h in
      omega arith)
      (Contains-append_cases (taken_since topic p q) (taken_since topic q r) m (subst (λ l. Contains l m) (since-taken_on topic p q r split) has))
