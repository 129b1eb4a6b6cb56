-- What a worker's calls make of its pass, from what each call of the queue says.
use Rattle.std.proofs.Common.{◌≡◌, ◌≢◌, refl, sym, ◌∙◌, ap, subst, arith, zero, suc, ℕ, ◌+◌, ◌<◌, ◌≤◌, List, [], ◌∷◌, ◌++◌, length, ⊎_elim, true, false, rules}
use Rattle.std.specs.Prelude.{◌==◌, if◌then◌else◌}
use Rattle.std.specs.List.{Contains}
use Rattle.std.proofs.lemmas.Bool.{ne_eqb, eq-eqb, cases_eq, cases_lt}
use Rattle.std.proofs.lemmas.List.{append_assoc, append-nil}
use Rattle.std.proofs.lemmas.List.Elements.{Contains-append_cases, Contains-push_cases}
use Rattle.scq_core.specs.declared.ended.Ended.{Ended}
use Rattle.scq_core.specs.declared.ended.Ended.TheVariants.{Done, Got, Nothing}
use Rattle.scq_band.specs.declared.numbers.Numbers.{Numbers}
use Rattle.scq_band.specs.Exports.{known_of, changed, finishes, sees, passes, drew, empties, Identity, Seen}
use Rattle.scq_band.proofs.Learning.{changed_length}
use Rattle.scq_collect.proofs.Orders.{contains-first, contains-more}
use Rattle.scq_law.specs.Exports.{tally, was_put}
use Rattle.scq_law.proofs.Base.SeatSums.{tally-append}
use Rattle.scq_queue.specs.Exports.{Placed, sends_of, PassStanding, HeldStanding, HasGot, WasLent, WasGivenBack, FoundEmpty, FoundFull, having_seen}
use Rattle.scq_queue.specs.Exports.{after_put, without, known_on, after_look}
use Rattle.scq_queue.proofs.Records.{sends-append}
use Rattle.scq_passes.specs.Exports.{Puts, AreReturns, and_got, and_found_none, KnowsMore, HasTakenFollowed, HasTaken, HasSentSo, HasFoundFull, Suits}
use Rattle.scq_passes.specs.Exports.{takes_left}
use Rattle.scq_passes.specs.Records.{none}
use Rattle.scq_passes.proofs.Blocks.{takes-join}
use Rattle.scq_passes.proofs.Kept.{knows-still, taken-same}
use Rattle.scq_passes.proofs.KnownNumbers.{known-other, known-same, Raises, raises-along, known-raised, finishes-raises, got-raises, empty-raises, empty-finished, empty-passes, finished-stays}

-- an index that was not there before it came leaves as it came
pub without-came : (i : ℕ) (held : List ℕ) → (Contains held i → ⊥) → without i (held ++ i ∷ []) ≡ held
without-came i [] came = rw (eq-eqb i i refl) refl
without-came i (j ∷ held) came =
    let apart : (j == i) ≡ false = ne_eqb j i (λ e. came (subst (Contains (j ∷ held)) e (contains-first j held))) in
    rw apart (ap (λ l. j ∷ l) (without-came i held (λ h. came (contains-more j i held h))))

-- one take more of a topic: each topic below the next has one more, and each other as many as before
pub counted-below : (topic : ℕ) (was now later : ℕ → ℕ) → ((t : ℕ) → t < topic → now t ≡ was t + 1) → ((t : ℕ) → topic ≤ t → now t ≡ was t)
    → ((t : ℕ) → later t ≡ now t + (if topic == t then 1 else 0)) → (t : ℕ) → t < topic + 1 → later t ≡ was t + 1
counted-below topic was now later below above one t low =
    ⊎_elim (λ (same : topic ≡ t).
    let yes_ : (topic == t) ≡ true = eq-eqb topic t same in
    let step : later t ≡ now t + 1 = rw yes_ at (one t) in
    let before = above t (omega arith) in
    omega arith)
    (λ (apart : topic ≡ t → ⊥).
    let no_ : (topic == t) ≡ false = ne_eqb topic t apart in
    let step : later t ≡ now t + 0 = rw no_ at (one t) in
    let before = below t (under topic t apart low) in
    omega arith)
    (cases_eq topic t) where
      under : (topic t : ℕ) → (topic ≡ t → ⊥) → t < topic + 1 → t < topic
      under topic t apart low_ = ⊎_elim (λ (h : t < topic). h) (λ (h : topic ≤ t). absurd (apart (omega arith))) (cases_lt t topic)

pub counted-above : (topic : ℕ) (was now later : ℕ → ℕ) → ((t : ℕ) → topic ≤ t → now t ≡ was t)
    → ((t : ℕ) → later t ≡ now t + (if topic == t then 1 else 0)) → (t : ℕ) → topic + 1 ≤ t → later t ≡ was t
counted-above topic was now later above one t high =
    let no_ : (topic == t) ≡ false = ne_eqb topic t (λ e. omega arith) in
    let step : later t ≡ now t + 0 = rw no_ at (one t) in
    let before = above t (omega arith) in
    omega arith

-- a put on a topic counts there
put-counts : (ring topic put : ℕ) (later : List ℕ) → ring ≡ suc topic → tally (was_put (suc topic)) (Done ring put later ∷ []) ≡ 0 → ⊥
put-counts ring topic put later is_on zero_ =
    let yes_ : (ring == suc topic) ≡ true = eq-eqb ring (suc topic) is_on in
    let one : (if ring == suc topic then 1 else 0) + 0 ≡ 1 = rw yes_ refl in
    omega (arith, one, zero_)

-- what a put sends is itself, on its ring
put-alone : (ring put : ℕ) (later : List ℕ) (m : Placed) → Contains (sends_of (Done ring put later ∷ [])) m → (ring ≡ suc m.topic) × (m.place ≡ put)
put-alone zero put later m has = absurd (search rules)
put-alone (suc topic) put later m has =
    ⊎_elim (λ (h : Contains [] m). absurd (search rules))
    (λ (is : record { topic = topic; place = put; bytes = later } ≡ m). (ap (λ (x : Placed). suc x.topic) is, sym (ap (λ (x : Placed). x.place) is)))
    (Contains-push_cases [] (record { topic = topic; place = put; bytes = later }) m has)

module _ {B : Type 0} where
  pub knows-itself : (p : PassStanding B) → KnowsMore p p
  knows-itself p = record { rings = refl; finished = λ t. omega arith; head = λ t. omega arith }

  pub knows-along : (p q r : PassStanding B) → KnowsMore p q → KnowsMore q r → KnowsMore p r
  knows-along p q r one more =
      record {
        rings = more.rings ∙ one.rings;
        finished = λ t. let low = one.finished t in let high = more.finished t in omega arith;
        head = λ t. let low = one.head t in let high = more.head t in omega arith;
      }

  -- where a pass differs in its calls and numbers alone
  pub calls-alone : (p q : PassStanding B) (calls : List Ended) (numbers : List Numbers) → q ≡ record p { calls = calls; numbers = numbers; seen = q.seen }
      → q ≡ record p { calls = calls; numbers = q.numbers; gates = q.gates; gate = q.gate; seen = q.seen }
  calls-alone p q calls numbers is =
      is ∙ ap (λ (x : PassStanding B). record p { calls = calls; numbers = x.numbers; gates = x.gates; gate = x.gate; seen = x.seen }) (sym is)

  -- nothing was done
  pub taken-nothing : {By : Puts} (p : PassStanding B) → HasTakenFollowed By p p
  taken-nothing p =
      record { block = []; are = none; pass = rw (append-nil p.calls) refl; knows = knows-itself p; same = λ t still. refl; sends = λ knows. knows }

  -- one behind the other
  pub taken-along : {By : Puts} (p q r : PassStanding B) → HasTakenFollowed By p q → HasTakenFollowed By q r → HasTakenFollowed By p r
  taken-along p q r one more =
      record {
        block = one.block ++ more.block;
        are = takes-join one.block more.block one.are more.are;
        pass = more.pass ∙ ap (λ (x : PassStanding B). record x {
          calls = x.calls ++ more.block;
          numbers = r.numbers;
          gates = r.gates;
          gate = r.gate;
          seen =
              r.seen;
        }) one.pass
            ∙ ap (λ calls. record p { calls = calls; numbers = r.numbers; gates = r.gates; gate = r.gate; seen = r.seen })
            (append_assoc p.calls one.block more.block);
        knows = knows-along p q r one.knows more.knows;
        same = λ t still.
            let all = tally-append (was_put (suc t)) one.block more.block in
            more.same t (omega arith) ∙ one.same t (omega arith);
        sends = λ knows. more.sends (one.sends knows);
      }

  -- what a get and then a put of what was got make of a pass
  pub got-and-put : (contents : B → List ℕ) (from place to put : ℕ) (later : List ℕ) (p q r : PassStanding B) (h : HeldStanding B)
      → HasGot contents from place p q h → r ≡ having_seen r.seen (after_put to h.index put later q)
      → r ≡ record p { calls = (p.calls ++ Got from place (contents h.buffer) ∷ []) ++ Done to put later ∷ []; numbers = r.numbers; seen = r.seen }
  got-and-put contents from place to put later p q r h got is =
      let bytes = contents h.buffer in
      let f : Numbers → Numbers = λ x. sees place (passes (place + 1) x) in
      let q_numbers : q.numbers ≡ changed f from p.numbers = ap (λ (x : PassStanding B). x.numbers) got.pass in
      let r_numbers : r.numbers ≡ changed (finishes put) to q.numbers = ap (λ (x : PassStanding B). x.numbers) is in
      is ∙ ap (λ (x : PassStanding B). having_seen r.seen (after_put to h.index put later x)) got.pass
      ∙ ap (λ (held : List ℕ). record p {
        calls = (p.calls ++ Got from place bytes ∷ []) ++ Done to put later ∷ [];
        held = held;
        numbers = changed (finishes put) to (changed f from p.numbers);
        seen = r.seen;
      }) (without-came h.index p.held got.came)
      ∙ ap (λ ns. record p { calls = (p.calls ++ Got from place bytes ∷ []) ++ Done to put later ∷ []; numbers = ns; seen = r.seen })
      (sym (r_numbers ∙ ap (changed (finishes put) to) q_numbers))

  -- and of what it knows
  pub got-and-put-knows : (contents : B → List ℕ) (from place to put : ℕ) (later : List ℕ) (p q r : PassStanding B) (h : HeldStanding B)
      → from < length p.numbers → to < length p.numbers
      → HasGot contents from place p q h → r ≡ having_seen r.seen (after_put to h.index put later q)
      → (length r.numbers ≡ length p.numbers) × ((k : ℕ) → Raises (known_of p.numbers k) (known_of r.numbers k)) × (put ≤ (known_of r.numbers to).finished)
      × ((k : ℕ) → k ≢ to → (known_of r.numbers k).finished ≡ (known_of p.numbers k).finished)
  got-and-put-knows contents from place to put later p q r h from_in to_in got is =
      let f : Numbers → Numbers = λ x. sees place (passes (place + 1) x) in
      let q_numbers : q.numbers ≡ changed f from p.numbers = ap (λ (x : PassStanding B). x.numbers) got.pass in
      let r_numbers : r.numbers ≡ changed (finishes put) to q.numbers = ap (λ (x : PassStanding B). x.numbers) is in
      let q_length : length q.numbers ≡ length p.numbers = ap length q_numbers ∙ changed_length f from p.numbers in
      let r_length : length r.numbers ≡ length q.numbers = ap length r_numbers ∙ changed_length (finishes put) to q.numbers in
      let first : (k : ℕ) → Raises (known_of p.numbers k) (known_of q.numbers k) = λ k.
      subst (λ ns. Raises (known_of p.numbers k) (known_of ns k)) (sym q_numbers) (known-raised f from k p.numbers (got-raises place) from_in) in
      let then_ : (k : ℕ) → Raises (known_of q.numbers k) (known_of r.numbers k) = λ k.
      subst (λ ns. Raises (known_of q.numbers k) (known_of ns k)) (sym r_numbers)
      (known-raised (finishes put) to k q.numbers (finishes-raises put) (omega arith)) in
      let last : known_of r.numbers to ≡ finishes put (known_of q.numbers to) =
      ap (λ ns. known_of ns to) r_numbers ∙ known-same (finishes put) to q.numbers (omega arith) in (
        r_length ∙ q_length,
        λ k. raises-along _ _ _ (first k) (then_ k),
        subst (λ (x : Numbers). put ≤ x.finished) (sym last) (omega arith),
        λ k apart. ap (λ ns. (known_of ns k).finished) r_numbers ∙ ap (λ (x : Numbers). x.finished) (known-other (finishes put) to k q.numbers apart)
            ∙ ap (λ ns. (known_of ns k).finished) q_numbers ∙ finished-stays f from k p.numbers (λ x. refl) from_in,
      )

  -- a value was taken from a topic, and such a put followed
  pub took-and-put : {By : Puts} (contents : B → List ℕ) (topic place ring put : ℕ) (later : List ℕ) (p q r : PassStanding B) (h : HeldStanding B)
      → suc topic < length p.numbers → ring < length p.numbers
      → HasGot contents (suc topic) place p q h → r ≡ having_seen r.seen (after_put ring h.index put later q) → By topic (contents h.buffer) ring later
      → HasTakenFollowed By p r
  took-and-put contents topic place ring put later p q r h topic_in ring_in got is by =
      let bytes = contents h.buffer in
      let front : List Ended = p.calls ++ Got (suc topic) place bytes ∷ [] in
      let last : List Ended = Done ring put later ∷ [] in
      let pass = got-and-put contents (suc topic) place ring put later p q r h got is in
      let its = got-and-put-knows contents (suc topic) place ring put later p q r h topic_in ring_in got is in
      let calls : r.calls ≡ front ++ last = ap (λ (x : PassStanding B). x.calls) pass in
      let sends : sends_of r.calls ≡ sends_of p.calls ++ sends_of last =
      ap sends_of calls ∙ sends-append front last
      ∙ ap (λ l. l ++ sends_of last) (sends-append p.calls (Got (suc topic) place bytes ∷ []) ∙ append-nil (sends_of p.calls)) in
      record {
        block = ([] ++ Got (suc topic) place bytes ∷ []) ++ last;
        are = and_got topic place bytes ring put later none by;
        pass = calls-alone p r (p.calls ++ (Got (suc topic) place bytes ∷ last)) r.numbers
            (pass ∙ ap (λ calls. record p { calls = calls; numbers = r.numbers; seen = r.seen }) (append_assoc p.calls (Got (suc topic) place bytes ∷ []) last));
        knows = record { rings = its.0; finished = λ t. (its.1 (suc t)).finished; head = λ t. (its.1 (suc t)).head };
        same = λ t still. its.3 (suc t) (λ e. put-counts ring t put later (sym e) (omega (arith, still)));
        sends = λ knows. record {
          sends = λ m has.
              ⊎_elim (λ (old : Contains (sends_of p.calls) m).
              let was = knows.sends m old in
              let topic_low = was.0 in
              let place_low = was.1 in
              let long = its.0 in
              let more = (its.1 (suc m.topic)).finished in
              (omega arith, omega arith))
              (λ (new : Contains (sends_of last) m).
              let is_new = put-alone ring put later m new in
              let P : ℕ → Type 0 = λ k. put ≤ (known_of r.numbers k).finished in
              let high = subst P is_new.0 its.2 in
              let long = its.0 in
              let where_ = is_new.0 in
              let same_place = is_new.1 in
              (omega arith, omega arith))
              (Contains-append_cases (sends_of p.calls) (sends_of last) m (subst (λ l. Contains l m) sends has));
        };
      }

  -- and given back, with such bytes
  pub took-and-gave : {By : Puts} (contents : B → List ℕ) (topic place : ℕ) (later : List ℕ) (p q r : PassStanding B) (h : HeldStanding B)
      → suc topic < length p.numbers
      → HasGot contents (suc topic) place p q h → WasGivenBack later h.index q r → By topic (contents h.buffer) 0 later → HasTakenFollowed By p r
  took-and-gave contents topic place later p q r h within got back by =
      took-and-put contents topic place 0 back.place later p q r h within (omega arith) got back.pass by

  -- as it was
  pub took-one : (contents : B → List ℕ) (topic place : ℕ) (p q r : PassStanding B) (h : HeldStanding B) → suc topic < length p.numbers
      → HasGot contents (suc topic) place p q h → WasGivenBack (contents h.buffer) h.index q r → HasTaken p r
  took-one contents topic place p q r h within got back = took-and-gave contents topic place (contents h.buffer) p q r h within got back (refl, refl)

  -- a buffer was lent, and sent on a topic with such bytes
  pub lent-and-sent : (contents : B → List ℕ) (topic : ℕ) (So : Placed → Type 0) (place : ℕ) (bytes : List ℕ) (p q r : PassStanding B) (h : HeldStanding B)
      → suc topic < length p.numbers
      → WasLent contents p q h → r ≡ having_seen r.seen (after_put (suc topic) h.index place bytes q)
      → So (record { topic = topic; place = place; bytes = bytes })
      → HasSentSo topic So p r
  lent-and-sent contents topic So place bytes p q r h within lent sent so =
      let its = got-and-put-knows contents 0 lent.place (suc topic) place bytes p q r h (omega arith) within lent.got sent in
      record {
        from = lent.place;
        over = contents h.buffer;
        place = place;
        bytes = bytes;
        pass = got-and-put contents 0 lent.place (suc topic) place bytes p q r h lent.got sent;
        sends = so;
        knows = record { rings = its.0; finished = λ t. (its.1 (suc t)).finished; head = λ t. (its.1 (suc t)).head };
        finished = its.2;
      }

  -- where a topic was found empty, the finished places known stay, and each one known there is passed
  found-stays : (topic head : ℕ) (p q : PassStanding B) → suc topic < length p.numbers → FoundEmpty topic head p q → (k : ℕ)
      → (known_of q.numbers k).finished ≡ (known_of p.numbers k).finished
  found-stays topic head p q within found k =
      let f : Numbers → Numbers = λ x. empties (drew found.drawn x) in
      let numbers : q.numbers ≡ changed f (suc topic) p.numbers = ap (λ (x : PassStanding B). x.numbers) found.pass in
      ap (λ ns. (known_of ns k).finished) numbers ∙ finished-stays f (suc topic) k p.numbers (empty-finished found.drawn) within

  pub found-past : (topic head : ℕ) (p q : PassStanding B) → suc topic < length p.numbers → FoundEmpty topic head p q
      → (known_on topic q).finished < (known_on topic q).head
  found-past topic head p q within found =
      let f : Numbers → Numbers = λ x. empties (drew found.drawn x) in
      let numbers : q.numbers ≡ changed f (suc topic) p.numbers = ap (λ (x : PassStanding B). x.numbers) found.pass in
      let past : (known_of p.numbers (suc topic)).finished < (known_of q.numbers (suc topic)).head =
      subst (λ ns. (known_of p.numbers (suc topic)).finished < (known_of ns (suc topic)).head) (sym numbers)
      (subst (λ x. (known_of p.numbers (suc topic)).finished < x.head) (sym (known-same f (suc topic) p.numbers within))
      (empty-passes found.drawn (known_of p.numbers (suc topic)))) in
      subst (λ n. n < (known_of q.numbers (suc topic)).head) (sym (found-stays topic head p q within found (suc topic))) past

  -- a topic was found empty
  pub found-none : {By : Puts} (topic head : ℕ) (p q : PassStanding B) → suc topic < length p.numbers → FoundEmpty topic head p q
      → HasTakenFollowed By p q
  found-none topic head p q within found =
      let f : Numbers → Numbers = λ x. empties (drew found.drawn x) in
      let numbers : q.numbers ≡ changed f (suc topic) p.numbers = ap (λ (x : PassStanding B). x.numbers) found.pass in
      let raised : (k : ℕ) → Raises (known_of p.numbers k) (known_of q.numbers k) = λ k.
      subst (λ ns. Raises (known_of p.numbers k) (known_of ns k)) (sym numbers) (known-raised f (suc topic) k p.numbers (empty-raises found.drawn) within) in
      let calls : q.calls ≡ p.calls ++ Nothing (suc topic) ∷ [] = ap (λ (x : PassStanding B). x.calls) found.pass in
      let more : KnowsMore p q = record {
        rings = ap length numbers ∙ changed_length f (suc topic) p.numbers;
        finished = λ t. (raised (suc t)).finished;
        head = λ t. (raised (suc t)).head;
      } in
      record {
        block = [] ++ Nothing (suc topic) ∷ [];
        are = and_found_none topic none;
        pass = calls-alone p q (p.calls ++ Nothing (suc topic) ∷ []) (changed f (suc topic) p.numbers) found.pass;
        knows = more;
        same = λ t still. found-stays topic head p q within found (suc t);
        sends = λ knows. knows-still p q more (ap sends_of calls ∙ sends-append p.calls (Nothing (suc topic) ∷ []) ∙ append-nil (sends_of p.calls)) knows;
      }

  -- no buffer was free
  pub found-full : (head : ℕ) (p q : PassStanding B) → 0 < length p.numbers → FoundFull head p q → HasFoundFull head p q
  found-full head p q within found =
      let f : Numbers → Numbers = λ x. empties (drew found.drawn x) in
      let numbers : q.numbers ≡ changed f 0 p.numbers = ap (λ (x : PassStanding B). x.numbers) found.pass in
      let raised : (k : ℕ) → Raises (known_of p.numbers k) (known_of q.numbers k) = λ k.
      subst (λ ns. Raises (known_of p.numbers k) (known_of ns k)) (sym numbers) (known-raised f 0 k p.numbers (empty-raises found.drawn) within) in
      record {
        pass = found.pass ∙ ap (λ ns. record p { calls = p.calls ++ Nothing 0 ∷ []; fulls = p.fulls ++ head ∷ []; numbers = ns; seen = q.seen }) (sym numbers);
        knows = record {
          rings = ap length numbers ∙ changed_length f 0 p.numbers;
          finished = λ t. (raised (suc t)).finished;
          head = λ t. (raised (suc t)).head;
        };
      }

  -- it asked whether all had retired
  looked-so : {By : Puts} (p : PassStanding B) (found : ℕ) (seen : Seen) → HasTakenFollowed By p (having_seen seen (after_look found p))
  looked-so p found seen =
      record {
        block = [];
        are = none;
        pass = rw (append-nil p.calls) refl;
        knows = record { rings = refl; finished = λ t. omega arith; head = λ t. omega arith };
        same = λ t still. refl;
        sends = λ knows. record { sends = knows.sends };
      }

  pub looked : {By : Puts} (p q : PassStanding B) (found : ℕ) → q ≡ having_seen q.seen (after_look found p) → HasTakenFollowed By p q
  looked {By} p q found is = subst (λ (x : PassStanding B). HasTakenFollowed By p x) (sym is) (looked-so p found q.seen)

  -- a pass that has taken still suits
  pub suits-taken : {By : Puts} (shared : Identity B) (declared : ℕ) (p q : PassStanding B) → Suits shared declared p → HasTakenFollowed By p q
      → Suits shared declared q
  suits-taken shared declared p q suits h =
      record {
        queue = ap (λ (x : PassStanding B). x.queue) h.pass ∙ suits.queue;
        rings = suits.rings;
        numbers = h.knows.rings ∙ suits.numbers;
        spent = ap (λ (x : PassStanding B). x.spent) h.pass ∙ suits.spent;
      }

  -- as it is known that more was passed, there is less left to take
  pub left-falls : (limit topics : ℕ) (p q : PassStanding B) → KnowsMore p q → takes_left limit topics q ≤ takes_left limit topics p
  left-falls limit zero p q knows = omega arith
  left-falls limit (suc topics) p q knows =
      let rest = left-falls limit topics p q knows in
      let head = knows.head topics in
      omega arith

  pub left-falls-at : (limit topics topic : ℕ) (p q : PassStanding B) → KnowsMore p q → topic < topics → (known_on topic p).head < (known_on topic q).head
      → (known_on topic p).head < limit → takes_left limit topics q < takes_left limit topics p
  left-falls-at limit zero topic p q knows low rises some_ = absurd (omega arith)
  left-falls-at limit (suc topics) topic p q knows low rises some_ =
      ⊎_elim (λ (same : topic ≡ topics).
      let P : ℕ → Type 0 = λ t. (known_on t p).head < (known_on t q).head in
      let Q : ℕ → Type 0 = λ t. (known_on t p).head < limit in
      let high : (known_on topics p).head < (known_on topics q).head = subst P same rises in
      let within : (known_on topics p).head < limit = subst Q same some_ in
      let rest = left-falls limit topics p q knows in
      omega arith)
      (λ (apart : topic ≡ topics → ⊥).
      let rest = left-falls-at limit topics topic p q knows (below topic topics apart low) rises some_ in
      let head = knows.head topics in
      omega arith)
      (cases_eq topic topics) where
        below : (t n : ℕ) → (t ≡ n → ⊥) → t < suc n → t < n
        below t n apart low_ = ⊎_elim (λ (h : t < n). h) (λ (h : n ≤ t). absurd (apart (omega arith))) (cases_lt t n)

  -- a topic that was found empty, still is as far as is known, where the pass only gave back
  pub empty-still : {By : Puts} → AreReturns By → (topic : ℕ) (p q : PassStanding B) → HasTakenFollowed By p q
      → (known_on topic p).finished < (known_on topic p).head
      → (known_on topic q).finished < (known_on topic q).head
  empty-still home topic p q h low =
      let same = taken-same home p q h topic in
      let more = h.knows.head topic in
      omega arith

  pub empty-more : {By : Puts} → AreReturns By → (topic : ℕ) (p q : PassStanding B) → HasTakenFollowed By p q
      → ((t : ℕ) → t < topic → (known_on t p).finished < (known_on t p).head)
      → (known_on topic q).finished < (known_on topic q).head → (t : ℕ) → t < topic + 1 → (known_on t q).finished < (known_on t q).head
  empty-more home topic p q h before here t low =
      ⊎_elim (λ (under : t < topic). empty-still home t p q h (before t under))
      (λ (over : topic ≤ t).
      let same : topic ≡ t = omega arith in
      let P : ℕ → Type 0 = λ k. (known_on k q).finished < (known_on k q).head in
      subst P same here)
      (cases_lt t topic)
