-- The tie between a run's history and its state, kept where a call begins, goes on, or ends without a ticket. The diary is the proof's own: for each
-- ticket of a put the position of the Start of the call that drew it, likewise for a get's, and the position of its get's End.
use Rattle.std.proofs.Common.{◌≡◌, ◌≢◌, ℕ, ◌+◌, ◌≤◌, inl, inr, true, List, [], ◌∷◌, ◌++◌, length, refl, ap, sym, ◌∙◌, subst, arith, eq-eqb, ne_eqb}
use Rattle.std.proofs.lemmas.Bool.{cases_eq}
use Rattle.scq_word.specs.declared.setup.Setup.{Setup}
use Rattle.scq_core.specs.Exports.{updated, Stance, resting, drawing, landed, asking, gave_up}
use Rattle.scq_core.specs.Machine.{Machine}
use Rattle.scq_core.proofs.UpdatedLemmas.{updated_else}
use Rattle.scq_hist.specs.Exports.{IsAnswer}
use Rattle.scq_hist.specs.declared.events.Call.TheVariants.{Put, Get}
use Rattle.scq_hist.specs.declared.events.Event as history
use Rattle.scq_hist.specs.declared.events.Event.TheVariants.{Start, End}
use Rattle.scq_hist.specs.declared.events.PutName.{PutName}
use Rattle.scq_hist.specs.declared.events.PutName.TheVariants.{Of}
use Rattle.scq_hist.specs.declared.events.Reply.{Reply}
use Rattle.scq_hist.specs.declared.events.Reply.TheVariants.{Done, Got, Nothing}
use Rattle.scq_law.proofs.Base.Ghosts.{Ghost, pending, opened}
use Rattle.scq_law.proofs.Aspects.CallsUnderWay.{Doing, IsCalled, called_put, called_get, called_end, called_on}
use Rattle.scq_law.proofs.Aspects.PlacedPuts.{due, PutsArePlaced, placed_grown, placed_on}
use Rattle.scq_law.proofs.Aspects.SeenEmpty.{Emptying, Emptied, IsEmptied, emptied_grown, emptied_kept}
use Rattle.scq_law.proofs.Aspects.TakenGets.{GetsAreTaken, taken_grown}

-- how many calls each seat's record has
abbrev pub calls_of : Machine → ℕ → ℕ
calls_of m k = length (m.part k).calls

pub record IsTied (c : Setup) (opening : List (List ℕ)) (events : List history.Event) (begun : ℕ → ℕ) (placer : ℕ → ℕ → PutName) (stance : ℕ → Stance)
    (calls : ℕ → ℕ) (g : Ghost) : Type 0 where
  pub origin : ℕ → ℕ → ℕ
  pub since : ℕ → ℕ → ℕ
  pub ended : ℕ → ℕ → ℕ
  pub called : IsCalled events begun stance
  pub placed : PutsArePlaced c opening events begun placer stance calls g.puts origin
  pub taken : GetsAreTaken events placer g.puts g.gets origin since ended
  pub emptied : IsEmptied opening events placer stance g.puts g.gets since
  -- a put that has placed its index has the name of its place
  pub lands : (k r i t : ℕ) (w : List ℕ) → stance k ≡ landed r i w t → placer r t ≡ Of k (begun k)

-- the seat has no ticket that is pending or open
pub record IsFree (g : Ghost) (k : ℕ) : Type 0 where
  pub pends : (r t i : ℕ) → g.puts r t ≢ pending k i
  pub opens : (r h : ℕ) → g.gets r h ≢ opened k

-- a seat's stance changes, and it is no landed one
pub lands_else : (stance : ℕ → Stance) (k : ℕ) (s : Stance) → ((r i t : ℕ) (w : List ℕ) → s ≢ landed r i w t) → (j r i t : ℕ) (w : List ℕ)
    → updated stance k s j ≡ landed r i w t → (j ≢ k) × (stance j ≡ landed r i w t)
lands_else stance k s none j r i t w is =
    elim (cases_eq j k) [
      | inl same ↦ absurd (none r i t w (sym (rw (eq-eqb j k same) refl) ∙ is))
      | inr apart ↦ (apart, sym (updated_else stance k s j apart) ∙ is)
    ]

-- a seat without tickets is no other seat that has one
pub other_pends : (g : Ghost) (k : ℕ) → IsFree g k → (r t j i : ℕ) → g.puts r t ≡ pending j i → k ≢ j
other_pends g k free r t j i is same = free.pends r t i (is ∙ ap (λ z. pending z i) (sym same))

pub other_opens : (g : Ghost) (k : ℕ) → IsFree g k → (r h j : ℕ) → g.gets r h ≡ opened j → k ≢ j
other_opens g k free r h j is same = free.opens r h (is ∙ ap opened (sym same))

-- what is due where only this seat's stance changes
pub due_else : (begun : ℕ → ℕ) (stance : ℕ → Stance) (k : ℕ) (s : Stance) → due s ≤ due (stance k) → (j n : ℕ) → n + due (stance j) ≤ begun j
    → n + due (updated stance k s j) ≤ begun j
due_else begun stance k s less j n low =
    elim (cases_eq j k) [
      | inl same ↦ let old : n + due (stance k) ≤ begun k = rw same at low in rw (eq-eqb j k same, same) (omega arith)
      | inr apart ↦ rw (ne_eqb j k apart) low
    ]

-- where only this seat's stance changes, a seat that leaves did so
pub leaves_else : (stance : ℕ → Stance) (k : ℕ) (s : Stance) → ((r h : ℕ) → s ≢ gave_up r h true) → (j r h : ℕ) → updated stance k s j ≡ gave_up r h true
    → (stance j ≡ gave_up r h true) × (k ≢ j)
leaves_else stance k s none j r h is =
    elim (cases_eq j k) [
      | inl same ↦ absurd (none r h (sym (rw (eq-eqb j k same) refl) ∙ is))
      | inr apart ↦ (sym (updated_else stance k s j apart) ∙ is, λ e. apart (sym e))
    ]

module _ (c : Setup) (opening : List (List ℕ)) (events : List history.Event) (begun : ℕ → ℕ) (placer : ℕ → ℕ → PutName) (stance : ℕ → Stance) (calls : ℕ → ℕ)
    (g : Ghost) (tied : IsTied c opening events begun placer stance calls g) (k : ℕ) where
  -- a resting seat starts a put
  pub tied_put : (r i : ℕ) (w : List ℕ) → stance k ≡ resting → IsFree g k
      → IsTied c opening (events ++ Start k (Put r w) ∷ []) (updated begun k (begun k + 1)) placer (updated stance k (drawing r i w)) calls g
  tied_put r i w rests free =
      record {
        origin = tied.origin;
        since = tied.since;
        ended = tied.ended;
        called = called_put events begun stance k r i w tied.called rests;
        placed =
            placed_grown c opening events begun placer stance calls g.puts tied.origin tied.placed (Start k (Put r w)) (updated begun k (begun k + 1))
            (updated stance k (drawing r i w)) calls (other_pends g k free)
            (λ j n low. elim (cases_eq j k) [
              | inl same ↦ let old : n + due (stance k) ≤ begun k = rw same at low in rw (eq-eqb j k same) (omega arith)
              | inr apart ↦ rw (ne_eqb j k apart) low
            ])
            (λ j. omega arith)
            (λ j is. absurd (cc));
        taken = taken_grown events placer g.puts g.gets tied.origin tied.since tied.ended tied.taken (Start k (Put r w)) (other_opens g k free)
            (λ j name y is. cc);
        emptied = emptied_grown opening events placer stance g.puts g.gets tied.since tied.emptied (Start k (Put r w)) (updated stance k (drawing r i w))
            (leaves_else stance k (drawing r i w) (λ a b z. cc)) (λ j z. absurd (cc));
        lands =
            λ j q x t y is.
            let old = lands_else stance k (drawing r i w) (λ a b d z e. cc) j q x t y is in
            tied.lands j q x t y old.1 ∙ ap (Of j) (sym (updated_else begun k (begun k + 1) j old.0));
      }

  -- or a get
  pub tied_get : (r : ℕ) → stance k ≡ resting → IsFree g k
      → IsTied c opening (events ++ Start k (Get r) ∷ []) begun placer (updated stance k (asking r)) calls g
  tied_get r rests free =
      record {
        origin = tied.origin;
        since = tied.since;
        ended = tied.ended;
        called = called_get events begun stance k r tied.called rests;
        placed = placed_grown c opening events begun placer stance calls g.puts tied.origin tied.placed (Start k (Get r)) begun (updated stance k (asking r)) calls
            (other_pends g k free)
            (due_else begun stance k (asking r) (omega arith)) (λ j. omega arith) (λ j is. absurd (cc));
        taken = taken_grown events placer g.puts g.gets tied.origin tied.since tied.ended tied.taken (Start k (Get r)) (other_opens g k free)
            (λ j name y is. cc);
        emptied = emptied_grown opening events placer stance g.puts g.gets tied.since tied.emptied (Start k (Get r)) (updated stance k (asking r))
            (leaves_else stance k (asking r) (λ a b z. cc)) (λ j z. absurd (cc));
        lands =
            λ j q x t y is.
            let old = lands_else stance k (asking r) (λ a b d z e. cc) j q x t y is in
            tied.lands j q x t y old.1;
      }

  -- a call goes on
  pub tied_on : (s : Stance) (calls2 : ℕ → ℕ) → Doing events (begun k) k s → due s ≤ due (stance k) → ((j : ℕ) → calls j ≤ calls2 j)
      → ((r i t : ℕ) (w : List ℕ) → s ≡ landed r i w t → placer r t ≡ Of k (begun k))
      → ((r h : ℕ) → s ≡ gave_up r h true → Emptying opening events placer g.puts g.gets tied.since k r)
      → IsTied c opening events begun placer (updated stance k s) calls2 g
  tied_on s calls2 now less calls_rise here leave =
      record {
        origin = tied.origin;
        since = tied.since;
        ended = tied.ended;
        called = called_on events begun stance k s tied.called now;
        placed = placed_on c opening events begun placer stance calls g.puts tied.origin tied.placed (updated stance k s) calls2
            (due_else begun stance k s less) calls_rise;
        taken = tied.taken;
        emptied =
            emptied_kept opening events placer stance g.puts g.gets tied.since tied.emptied placer (updated stance k s) g.puts g.gets tied.since
            (λ q u z. (z, refl)) (λ q u z. (z, refl))
            (λ j q u at.
            elim (cases_eq j k) [
              | inl same ↦ inr (subst (λ v. Emptying opening events placer g.puts g.gets tied.since v q) (sym same)
                  (leave q u (sym (rw (eq-eqb j k same) refl) ∙ at)))
              | inr apart ↦ inl (sym (updated_else stance k s j apart) ∙ at)
            ]);
        lands =
            λ j r i t w is.
            elim (cases_eq j k) [
              | inl same ↦ rw same (here r i t w (sym (rw (eq-eqb j k same) refl) ∙ is))
              | inr apart ↦ tied.lands j r i t w (sym (updated_else stance k s j apart) ∙ is)
            ];
      }

  -- a call ends, and neither with Done nor with Got
  pub tied_end : (reply : Reply) (calls2 : ℕ → ℕ) → IsAnswer (events ++ End k reply ∷ []) k (length events) reply → reply ≢ Done
      → ((name : PutName) (w : List ℕ) → reply ≢ Got name w) → IsFree g k → ((j : ℕ) → calls j ≤ calls2 j)
      → (reply ≡ Nothing → Emptied opening (events ++ End k reply ∷ []) placer g.puts g.gets tied.since (length events) k)
      → IsTied c opening (events ++ End k reply ∷ []) begun placer (updated stance k resting) calls2 g
  tied_end reply calls2 answer no_done no_got free calls_rise empty =
      record {
        origin = tied.origin;
        since = tied.since;
        ended = tied.ended;
        called = called_end events begun stance k reply tied.called answer;
        placed =
            placed_grown c opening events begun placer stance calls g.puts tied.origin tied.placed (End k reply) begun (updated stance k resting) calls2
            (other_pends g k free)
            (due_else begun stance k resting (omega arith)) calls_rise (λ j is. absurd (no_done cc));
        taken = taken_grown events placer g.puts g.gets tied.origin tied.since tied.ended tied.taken (End k reply) (other_opens g k free)
            (λ j name y is. no_got name y cc);
        emptied =
            emptied_grown opening events placer stance g.puts g.gets tied.since tied.emptied (End k reply) (updated stance k resting)
            (leaves_else stance k resting (λ a b z. cc))
            (λ j z.
            let nothing : reply ≡ Nothing = cc in
            let seat : k ≡ j = cc in
            subst (λ v. Emptied opening (events ++ End k reply ∷ []) placer g.puts g.gets tied.since (length events) v) seat (empty nothing));
        lands =
            λ j q x t y is.
            let old = lands_else stance k resting (λ a b d z e. cc) j q x t y is in
            tied.lands j q x t y old.1;
      }
