-- One tally more, kept of the queue of an event just before it
use Rattle.std.proofs.Common.{◌≡◌, ℕ, zero, suc, ◌+◌, ◌<◌, ◌≤◌, inl, inr, List, [], ◌∷◌, ◌++◌, Some, slice_get, length, length-append, refl, sym, ◌∙◌}
use Rattle.std.proofs.Common.{subst, ap, arith}
use Rattle.std.proofs.lemmas.Bool.{cases_eq}
use Rattle.std.proofs.lemmas.Option.{slice_get_within}
use Rattle.scq_hist.specs.Exports.{IsFinishedAt, IsTally, IsFreshAt, IsOnceAt, IsInOrderAt, IsEmptyRightAt}
use Rattle.scq_hist.specs.declared.events.Call.TheVariants.{Put}
use Rattle.scq_hist.specs.declared.events.Event.{Event}
use Rattle.scq_hist.specs.declared.events.Event.TheVariants.{Start}
use Rattle.scq_check.specs.Exports.{AreFailuresBefore, IsQueueOf, queue_in, AreQueuesAt, CountsAreSmall, AreTallies, IsTokenInOrderAt}
use Rattle.scq_hist.specs.declared.tallies.Tally.{Tally}
use Rattle.scq_check.specs.declared.queues.Queues.{Queues}
use Rattle.scq_check.specs.declared.verdicts.Found.{Found}

pub still : {X : Type 0} (xs : List X) (x : X) (k : ℕ) → k < length xs → slice_get (xs ++ x ∷ []) k ≡ slice_get xs k
still {X} [] x k lt = absurd (omega arith)
still {X} (y ∷ ys) x zero lt = refl
still {X} (y ∷ ys) x (suc k) lt = still ys x k (omega arith)

pub pushed : {X : Type 0} (xs : List X) (x : X) → slice_get (xs ++ x ∷ []) (length xs) ≡ Some x
pushed {X} [] x = refl
pushed {X} (y ∷ ys) x = pushed ys x

pub tallies_more : (opening : List (List ℕ)) (events : List Event) (e number : ℕ) (queues : Queues) (old new : List Tally) (tally : Tally)
    → IsQueueOf events e number → AreQueuesAt opening events e queues → tally ≡ (queue_in queues number).tally → new ≡ old ++ tally ∷ []
    → AreTallies opening events e old → AreTallies opening events (e + 1) new
tallies_more opening events e number queues old new tally of are here push is =
    let many = is.many in
    let one_more = ap length push ∙ length-append old (tally ∷ []) in
    record {
      many = omega arith;
      before = λ k seat q content t starts at.
          let there : slice_get (old ++ tally ∷ []) k ≡ Some t = subst (λ ts. slice_get ts k ≡ Some t) push at in
          let within = slice_get_within new k t at in
          elim (cases_eq k e) [
            | inl same ↦ (let last : slice_get (old ++ tally ∷ []) k ≡ Some tally = ap (slice_get (old ++ tally ∷ [])) (same ∙ sym many) ∙ pushed old tally in
                let mine : (queue_in queues number).tally ≡ t = sym here ∙ (let is : tally ≡ t = cc in is) in
                let queues_same : number ≡ q = sym (of.put seat q content (subst (λ i. slice_get events i ≡ Some (Start seat (Put q content))) same starts)) in
                subst (λ i. IsTally events (IsFinishedAt opening events q i) t.ungot t.claimed_from) (sym same)
                (subst (λ n. IsTally events (IsFinishedAt opening events n e) t.ungot t.claimed_from) queues_same
                (subst (λ (z : Tally). IsTally events (IsFinishedAt opening events number e) z.ungot z.claimed_from) mine (are.each number).tally)))
            | inr ne ↦ is.before k seat q content t starts (sym (still old tally k (omega arith)) ∙ there)
          ];
    }

few_tokens : (old new : Tally) (n : ℕ) → new ≡ old → old.ungot ≤ n → new.ungot ≤ n
few_tokens old new n same few = subst (λ (t : Tally). t.ungot ≤ n) (sym same) few

-- what is kept of the queues before position e
pub record AreKept (opening : List (List ℕ)) (events : List Event) (e : ℕ) (queues : Queues) : Type 0 where
  pub few : queues.tokens.ungot ≤ length opening
  pub small : CountsAreSmall e queues
  pub at : AreQueuesAt opening events e queues

pub kept_more : (opening : List (List ℕ)) (events : List Event) (e : ℕ) (old new : Queues) → new.tokens ≡ old.tokens → CountsAreSmall (e + 1) new
    → ((opening : List (List ℕ)) → AreQueuesAt opening events e old → AreQueuesAt opening events (e + 1) new)
    → AreKept opening events e old → AreKept opening events (e + 1) new
kept_more opening events e old new tokens small at is = record {
  few = few_tokens old.tokens new.tokens (length opening) tokens is.few;
  small = small;
  at = at opening is.at;
}

-- and beside them the events so far that break each aspect
pub record AreFoundBefore (opening : List (List ℕ)) (events : List Event) (e : ℕ) (queues : Queues) (found : Found) : Type 0 where
  pub kept : AreKept opening events e queues
  pub fresh : AreFailuresBefore (IsFreshAt opening events) e found.fresh
  pub once : AreFailuresBefore (IsOnceAt events) e found.once
  pub in_order : AreFailuresBefore (IsInOrderAt opening events) e found.in_order
  pub empty_right : AreFailuresBefore (IsEmptyRightAt opening events) e found.empty_right
  pub tokens : AreFailuresBefore (IsTokenInOrderAt opening events) e found.opening
