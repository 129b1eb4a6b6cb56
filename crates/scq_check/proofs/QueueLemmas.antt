-- One event more, and what is known of each queue
use Rattle.std.proofs.Common.{◌≡◌, ℕ, suc, ◌+◌, ◌<◌, ◌≤◌, ◌⊎◌, ◌↔◌, inl, inr, Bool, true, false, IsTrue, List, Some, None, unwrap_or, nat_eq, cond}
use Rattle.std.proofs.Common.{if◌then◌else◌, refl, sym, ◌∙◌, subst, ap, arith}
use Rattle.std.specs.Ordering.{nat_cmp}
use Rattle.std.specs.BTreeMap.{get, is_at, IsEmpty}
use Rattle.std.specs.Map.{lookup}
use Rattle.std.proofs.lemmas.Bool.{cases_eq, cases_lt, iff_false}
use Rattle.std.proofs.lemmas.Bool.Decides.{eqb_tells}
use Rattle.scq_hist.specs.Exports.{IsFinishedAt, IsPending, IsGot, IsLawful, IsRightWithin, IsCount, NoDoneAt, IsTally}
use Rattle.scq_hist.specs.declared.events.Event.{Event}
use Rattle.scq_hist.specs.declared.events.PutName.{PutName}
use Rattle.scq_hist.specs.declared.events.PutName.TheVariants.{Opening, Of}
use Rattle.scq_hist.proofs.Claims.{claims_iff}
use Rattle.scq_hist.proofs.Counting.{count_none}
use Rattle.scq_hist.proofs.Pending.{pending_more, pending_same}
use Rattle.scq_hist.proofs.TallyLemmas.{finished_same}
use Rattle.scq_check.specs.Exports.{IsQueueOf, AreClaimed, unseen, queue_in, IsRightAt, IsRightBy, IsQueueAt, AreQueuesAt, CountsAreSmall, one_more_if}
use Rattle.scq_hist.specs.declared.tallies.Tally.{Tally}
use Rattle.scq_check.specs.declared.queues.Queue.{Queue}
use Rattle.scq_check.specs.declared.queues.Queues.{Queues}

-- by the numbers of a queue all its finished puts are claimed, or they aren't
pub right_iff : (opening : List (List ℕ)) (events : List Event) (number m : ℕ) (queue : Queue) (b : Bool) → IsLawful events
    → IsTally events (IsFinishedAt opening events number m) queue.tally.ungot queue.tally.claimed_from → IsCount (IsPending events number m) queue.pending
    → (IsTrue b ↔ AreClaimed queue m) → IsTrue b ↔ IsRightAt opening events number m
right_iff opening events number m queue b lawful tally pending test =
    let iff = claims_iff events number m queue.tally.ungot queue.tally.claimed_from queue.pending (IsFinishedAt opening events number m) b
    lawful tally pending test in
    (λ t. record { claimed = iff.0 t }, λ r. iff.1 r.claimed)

-- the numbers are decided
record Decided (queue : Queue) (m : ℕ) : Type 0 where
  answer : Bool
  tells : IsTrue answer ↔ AreClaimed queue m

decide : (queue : Queue) (m : ℕ) → Decided queue m
decide queue m = elim (cases_lt m queue.tally.claimed_from) [
  | inl late ↦ record { answer = false; tells = (λ t. absurd cc, λ both. let from = both.0 in absurd (omega arith)) }
  | inr from ↦ elim (cases_lt queue.pending queue.tally.ungot) [
    | inl many ↦ record { answer = false; tells = (λ t. absurd cc, λ both. let few = both.1 in absurd (omega arith)) }
    | inr few ↦ record { answer = true; tells = (λ _. (from, few), λ _. refl) }
  ]
]

pub numbers_right : (opening : List (List ℕ)) (events : List Event) (number m : ℕ) (queue : Queue) → IsLawful events
    → IsTally events (IsFinishedAt opening events number m) queue.tally.ungot queue.tally.claimed_from → IsCount (IsPending events number m) queue.pending
    → IsRightAt opening events number m → AreClaimed queue m
numbers_right opening events number m queue lawful tally pending right =
    let d = decide queue m in d.tells.0 ((right_iff opening events number m queue d.answer lawful tally pending d.tells).1 right)

-- the last right moment, after one event more
last_more : (opening : List (List ℕ)) (events : List Event) (number e : ℕ) (new : Queue) → IsLawful events
    → IsTally events (IsFinishedAt opening events number (e + 1)) new.tally.ungot new.tally.claimed_from → IsCount (IsPending events number (e + 1)) new.pending
    → ((k : ℕ) → k ≤ e → IsRightAt opening events number k → (k ≤ new.right_till) ⊎ AreClaimed new (e + 1))
    → (k : ℕ) → k ≤ e + 1 → IsRightAt opening events number k → (k ≤ new.right_till) ⊎ AreClaimed new (e + 1)
last_more opening events number e new lawful tally pending before k le right = elim (cases_eq k (e + 1)) [
  | inl is ↦ inr (numbers_right opening events number (e + 1) new lawful tally pending (subst (λ m. IsRightAt opening events number m) is right))
  | inr ne ↦ before k (omega arith) right
]

right_later : (opening : List (List ℕ)) (events : List Event) (number e k : ℕ) → IsRightBy opening events number e k → IsRightBy opening events number (e + 1) k
right_later opening events number e k r = record { by = (let le = r.by in omega arith); right = r.right }

-- a queue whose calls the event isn't of
idle : (opening : List (List ℕ)) (events : List Event) (number e : ℕ) (queue : Queue) → IsLawful events → NoDoneAt events number e
    → ¬ IsPending events number (suc e) e → IsQueueAt opening events number e queue → IsQueueAt opening events number (e + 1) queue
idle opening events number e queue lawful no_done no_get is =
    let tally = finished_same opening events number e queue.tally.ungot queue.tally.claimed_from no_done is.tally in
    let pending = pending_same events number e queue.pending is.pending no_get in
    record {
      tally = tally;
      pending = pending;
      right = λ some. right_later opening events number e queue.right_till (is.right some);
      last = last_more opening events number e queue lawful tally pending (λ k le right. elim (is.last k le right) [
        | inl till ↦ inl till
        | inr now ↦ (let from = now.0 in let few = now.1 in inr (omega arith, omega arith))
      ]);
    }

-- its gets that never end, with the one that starts there, if one does
pub pending_by : (events : List Event) (number e n m : ℕ) (b : Bool) → m ≡ one_more_if n b → (IsTrue b ↔ IsPending events number (suc e) e)
    → IsCount (IsPending events number e) n → IsCount (IsPending events number (e + 1)) m
pending_by events number e n m true is test count = rw is (pending_more events number e n count (test.0 refl))
pending_by events number e n m false is test count = rw is (pending_same events number e n count (iff_false test refl))

-- the queue of the event: what its numbers say just before the event is kept
by_answer : (opening : List (List ℕ)) (events : List Event) (number e : ℕ) (old new : Queue) (b : Bool) → IsLawful events
    → IsQueueAt opening events number e old
    → (IsTrue b ↔ AreClaimed old e) → new.right_till ≡ (if b then e else old.right_till)
    → IsTally events (IsFinishedAt opening events number (e + 1)) new.tally.ungot new.tally.claimed_from → IsCount (IsPending events number (e + 1)) new.pending
    → IsQueueAt opening events number (e + 1) new
by_answer opening events number e old new true lawful is test till tally pending = record {
  tally = tally;
  pending = pending;
  right = λ _. subst (λ k. IsRightBy opening events number (e + 1) k) (sym till) (record {
    by = omega arith;
    right = (right_iff opening events number e old true lawful is.tally is.pending test).0 refl;
  });
  last = last_more opening events number e new lawful tally pending (λ k le _. inl (omega arith));
}
by_answer opening events number e old new false lawful is test till tally pending = record {
  tally = tally;
  pending = pending;
  right = λ some. subst (λ k. IsRightBy opening events number (e + 1) k) (sym till)
      (right_later opening events number e old.right_till (is.right (subst (λ k. 0 < k) till some)));
  last = last_more opening events number e new lawful tally pending (λ k le right. elim (is.last k le right) [
    | inl before ↦ inl (omega arith)
    | inr now ↦ (let wrong = test.1 now in absurd cc)
  ]);
}

pub queue_more : (opening : List (List ℕ)) (events : List Event) (number e : ℕ) (old new : Queue) → IsLawful events
    → (AreClaimed old e → new.right_till ≡ e) → ((AreClaimed old e → ⊥) → new.right_till ≡ old.right_till)
    → IsTally events (IsFinishedAt opening events number (e + 1)) new.tally.ungot new.tally.claimed_from → IsCount (IsPending events number (e + 1)) new.pending
    → IsQueueAt opening events number e old → IsQueueAt opening events number (e + 1) new
queue_more opening events number e old new lawful claimed unclaimed tally pending is =
    let d = decide old e in by_answer opening events number e old new d.answer lawful is d.tells (till d.answer d.tells) tally pending where
      till : (b : Bool) → (IsTrue b ↔ AreClaimed old e) → new.right_till ≡ (if b then e else old.right_till)
      till true tells = claimed (tells.0 refl)
      till false tells = unclaimed (λ both. let wrong = tells.1 both in absurd cc)

-- one queue is kept, and the others as they were
kept_queue : (old new : Queues) (number other : ℕ) (after : Queue) → new.tokens ≡ old.tokens
    → ((q : ℕ) → get nat_cmp new.known q ≡ cond (nat_eq number q) (Some after) (get nat_cmp old.known q))
    → ((number ≡ other) × (queue_in new other ≡ after)) ⊎ ((other ≡ number → ⊥) × (queue_in new other ≡ queue_in old other))
kept_queue old new number other after tokens known = elim (eqb_tells number other) [
  | inl s ↦ (let there : get nat_cmp new.known other ≡ Some after = rw s.0 at (known other) in
      inl (s.1, ap (λ o. unwrap_or o (unseen new.tokens other)) there))
  | inr s ↦ (let there : get nat_cmp new.known other ≡ get nat_cmp old.known other = rw s.0 at (known other) in
      inr (
        λ same. s.1 (sym same),
        ap (λ o. unwrap_or o (unseen new.tokens other)) there ∙ ap (λ t. unwrap_or (get nat_cmp old.known other) (unseen t other)) tokens,
      ))
]

pub queues_more : (opening : List (List ℕ)) (events : List Event) (number e : ℕ) (old new : Queues) (after : Queue) → IsLawful events
    → IsQueueOf events e number
    → new.tokens ≡ old.tokens → ((q : ℕ) → get nat_cmp new.known q ≡ cond (nat_eq number q) (Some after) (get nat_cmp old.known q))
    → (IsQueueAt opening events number e (queue_in old number) → IsQueueAt opening events number (e + 1) after)
    → AreQueuesAt opening events e old → AreQueuesAt opening events (e + 1) new
queues_more opening events number e old new after lawful of tokens known step are = record {
  each = λ q. elim (kept_queue old new number q after tokens known) [
    | inl here ↦ subst (λ z. IsQueueAt opening events q (e + 1) z) (sym here.1)
        (subst (λ z. IsQueueAt opening events z (e + 1) after) here.0 (step (are.each number)))
    | inr other ↦ subst (λ z. IsQueueAt opening events q (e + 1) z) (sym other.1)
        (idle opening events q e (queue_in old q) lawful (of.no_done q other.0) (of.no_get q other.0) (are.each q))
  ];
}

pub small_more : (number e : ℕ) (old new : Queues) (after : Queue) → new.tokens ≡ old.tokens
    → ((q : ℕ) → get nat_cmp new.known q ≡ cond (nat_eq number q) (Some after) (get nat_cmp old.known q))
    → after.tally.ungot ≤ (queue_in old number).tally.ungot + 1 → after.pending ≤ (queue_in old number).pending + 1
    → CountsAreSmall e old → CountsAreSmall (e + 1) new
small_more number e old new after tokens known few few_gets small =
    let ungot = small.ungot number in let pending = small.pending number in
    let same : new.tokens.ungot ≡ old.tokens.ungot = ap (λ (t : Tally). t.ungot) tokens in
    record {
      ungot = λ q. elim (kept_queue old new number q after tokens known) [
        | inl here ↦ (let is : (queue_in new q).tally.ungot ≡ after.tally.ungot = ap (λ (z : Queue). z.tally.ungot) here.1 in omega arith)
        | inr other ↦ (let is : (queue_in new q).tally.ungot ≡ (queue_in old q).tally.ungot = ap (λ (z : Queue). z.tally.ungot) other.1 in
            let was = small.ungot q in omega arith)
      ];
      pending = λ q. elim (kept_queue old new number q after tokens known) [
        | inl here ↦ (let is : (queue_in new q).pending ≡ after.pending = ap (λ (z : Queue). z.pending) here.1 in omega arith)
        | inr other ↦ (let is : (queue_in new q).pending ≡ (queue_in old q).pending = ap (λ (z : Queue). z.pending) other.1 in
            let was = small.pending q in omega arith)
      ];
    }

-- before any event
no_tally : (opening : List (List ℕ)) (events : List Event) (number : ℕ) → (number ≡ 0 → ⊥) → IsTally events (IsFinishedAt opening events number 0) 0 0
no_tally opening events number other = record {
  ungot = count_none (λ name. IsFinishedAt opening events number 0 name × (¬ IsGot events name)) (λ name h. none name h.0);
  claimed = λ name s e put get. absurd (none name put);
  least = λ m lt. absurd (omega arith);
} where
  none : (name : PutName) → IsFinishedAt opening events number 0 name → ⊥
  none (Opening j) h = other h.0
  none (Of k n) h = (let lt = h.1 in absurd (omega arith))

unseen_at : (opening : List (List ℕ)) (events : List Event) (tokens : Tally) (number : ℕ)
    → IsTally events (IsFinishedAt opening events 0 0) tokens.ungot tokens.claimed_from
    → IsQueueAt opening events number 0 (unseen tokens number)
unseen_at opening events tokens number is = record {
  tally = elim (eqb_tells number 0) [
    | inl s ↦ rw s.0 (subst (λ q. IsTally events (IsFinishedAt opening events q 0) tokens.ungot tokens.claimed_from) (sym s.1) is)
    | inr s ↦ rw s.0 (no_tally opening events number s.1)
  ];
  pending = count_none (IsPending events number 0) (λ s p. let lt = p.before in absurd (omega arith));
  right = λ some. absurd (omega arith);
  last = λ k le _. inl le;
}

-- no queue was seen yet
none_known : (queues : Queues) → IsEmpty queues.known → (q : ℕ) → get nat_cmp queues.known q ≡ None
none_known queues empty q = ap (λ es. lookup (is_at (nat_cmp q)) es) empty

pub queues_start : (opening : List (List ℕ)) (events : List Event) (queues : Queues) → IsEmpty queues.known
    → IsTally events (IsFinishedAt opening events 0 0) queues.tokens.ungot queues.tokens.claimed_from → AreQueuesAt opening events 0 queues
queues_start opening events queues empty is = record {
  each = λ q. subst (λ o. IsQueueAt opening events q 0 (unwrap_or o (unseen queues.tokens q))) (sym (none_known queues empty q))
      (unseen_at opening events queues.tokens q is);
}

unseen_few : (tokens : Tally) (number : ℕ) → (unseen tokens number).tally.ungot ≤ tokens.ungot + 0
unseen_few tokens number = elim (eqb_tells number 0) [ inl s ↦ rw s.0 (omega arith) | inr s ↦ rw s.0 (omega arith) ]

pub small_start : (queues : Queues) → IsEmpty queues.known → CountsAreSmall 0 queues
small_start queues empty = record {
  ungot = λ q. subst (λ o. (unwrap_or o (unseen queues.tokens q)).tally.ungot ≤ queues.tokens.ungot + 0) (sym (none_known queues empty q))
      (unseen_few queues.tokens q);
  pending = λ q. subst (λ o. (unwrap_or o (unseen queues.tokens q)).pending ≤ 0) (sym (none_known queues empty q)) (omega arith);
}

-- whether the queue was right since position s
pub right_since : (opening : List (List ℕ)) (events : List Event) (number s e : ℕ) (queue : Queue) (b : Bool) → IsLawful events → s < e
    → IsQueueAt opening events number e queue → (IsTrue b ↔ (AreClaimed queue e ⊎ (s < queue.right_till))) → IsTrue b ↔ IsRightWithin opening events number s e
right_since opening events number s e queue b lawful before is test = (
  λ t. elim (test.0 t) [
    | inl now ↦ (let d = decide queue e in
        let r = (right_iff opening events number e queue d.answer lawful is.tally is.pending d.tells).0 (d.tells.1 now) in
        (e, before, omega arith, r.claimed))
    | inr till ↦ (let r = is.right (omega arith) in (queue.right_till, till, r.by, r.right.claimed))
  ],
  λ within. test.1 (elim (is.last within.0 within.2 (record { claimed = within.3 })) [
    | inl till ↦ (let after = within.1 in inr (omega arith))
    | inr now ↦ inl now
  ]),
)
