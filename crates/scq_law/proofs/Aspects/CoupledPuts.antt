-- The tie between a run's history and its state, kept by the events of a put with a ticket: it draws one, fails with it,
-- places its index there, and ends.
use Rattle.std.proofs.Common.{◌≡◌, ℕ, ◌<◌, ◌≤◌, inl, inr, true, false, List, [], ◌∷◌, ◌++◌, length, refl, ap, sym, ◌∙◌, subst, arith, eq-eqb}
use Rattle.std.specs.Prelude.{Some}
use Rattle.std.proofs.lemmas.Bool.{cases_eq}
use Rattle.scq_word.specs.declared.setup.Setup.{Setup}
use Rattle.scq_core.specs.Exports.{updated, updated_entry, Stance, resting, drawing, putting, landed}
use Rattle.scq_core.proofs.UpdatedLemmas.{updated_else, updated_entry_here}
use Rattle.scq_hist.specs.Exports.{IsPut}
use Rattle.scq_hist.proofs.Puts.{one_start}
use Rattle.scq_hist.proofs.UnderWay.{started_within}
use Rattle.scq_hist.specs.declared.events.Event as history
use Rattle.scq_hist.specs.declared.events.Event.TheVariants.{End}
use Rattle.scq_hist.specs.declared.events.PutName.{PutName}
use Rattle.scq_hist.specs.declared.events.PutName.TheVariants.{Of}
use Rattle.scq_hist.specs.declared.events.Reply.TheVariants.{Done}
use Rattle.scq_law.specs.Exports.{call_of}
use Rattle.scq_law.proofs.Base.Ghosts.{Ghost, fresh, pending, failed, placed, is_placed, with_put}
use Rattle.scq_law.proofs.Aspects.GrowingHistory.{under_now, under_old}
use Rattle.scq_law.proofs.Aspects.CallsUnderWay.{PutsNow, called_end, called_on, put_answer}
use Rattle.scq_law.proofs.Aspects.PlacedPuts.{NamesPut, Landing, placed_grown, placed_on, placed_drawn, placed_laid}
use Rattle.scq_law.proofs.Base.BaseGroup.{updated_entry_else}
use Rattle.scq_law.proofs.Aspects.SeenEmpty.{emptied_grown, emptied_kept}
use Rattle.scq_law.proofs.Aspects.TakenGets.{taken_grown, taken_kept}
use Rattle.scq_law.proofs.Aspects.Coupling.{IsTied, IsFree, lands_else, other_pends, other_opens, due_else, leaves_else}

module _ (c : Setup) (opening : List (List ℕ)) (events : List history.Event) (begun : ℕ → ℕ) (placer : ℕ → ℕ → PutName) (stance : ℕ → Stance) (calls : ℕ → ℕ)
    (g : Ghost) (tied : IsTied c opening events begun placer stance calls g) (k : ℕ) where
  -- a put that has placed its index ends with Done
  pub tied_done : (r i : ℕ) (w : List ℕ) (t : ℕ) (calls2 : ℕ → ℕ) → stance k ≡ landed r i w t → g.puts r t ≡ placed i w (call_of k (calls k)) → IsFree g k
      → ((j : ℕ) → calls j ≤ calls2 j) → calls k < calls2 k → IsTied c opening (events ++ End k Done ∷ []) begun placer (updated stance k resting) calls2 g
  tied_done r i w t calls2 stands is free calls_rise more =
      let now : PutsNow events (begun k) k r w = rw stands at (tied.called.doing k) in
      let name = tied.lands k r i t w stands in
      let named : IsPut events k (begun k) r w (tied.origin r t) =
      subst (λ z. NamesPut opening events z r w (tied.origin r t)) name (tied.placed.named r t i w (call_of k (calls k)) is) in
      let start : now.s ≡ tied.origin r t = one_start events k (begun k) r r now.s (tied.origin r t) w w now.put named in
      let under : under_now events k ≡ Some (tied.origin r t) = now.under ∙ ap Some start in
      let some = started_within events k (length events) (tied.origin r t) under in
      record {
        origin = tied.origin;
        since = tied.since;
        ended = tied.ended;
        called = called_end events begun stance k Done tied.called (put_answer events (begun k) k r w Done now tt);
        placed =
            placed_grown c opening events begun placer stance calls g.puts tied.origin tied.placed (End k Done) begun (updated stance k resting) calls2
            (other_pends g k free)
            (due_else begun stance k resting (omega arith)) calls_rise
            (λ j at.
            let seat : k ≡ j = cc in
            subst (λ z. Landing (events ++ End k Done ∷ []) placer calls2 g.puts tied.origin (length events) z) seat
            (record {
              r = r;
              p = t;
              n = begun k;
              index = i;
              content = w;
              number = calls k;
              is = is;
              ended = more;
              name = name;
              under = under_old events (End k Done) k (length events) (omega arith) ∙ under;
              later = λ u le. elim (tied.placed.early r u) [ inl none ↦ omega arith | inr less ↦ less ];
            }));
        taken = taken_grown events placer g.puts g.gets tied.origin tied.since tied.ended tied.taken (End k Done) (other_opens g k free) (λ j name y is. cc);
        emptied = emptied_grown opening events placer stance g.puts g.gets tied.since tied.emptied (End k Done) (updated stance k resting)
            (leaves_else stance k resting (λ a b z. cc)) (λ j z. absurd (cc));
        lands =
            λ j q x u y is.
            let old = lands_else stance k resting (λ a b d z e. cc) j q x u y is in
            tied.lands j q x u y old.1;
      }

  -- a put draws a ticket
  pub tied_drew : (r i : ℕ) (w : List ℕ) (t : ℕ) (calls2 : ℕ → ℕ) → stance k ≡ drawing r i w → g.puts r t ≡ fresh → ((u : ℕ) → t ≤ u → g.puts r u ≡ fresh)
      → ((j : ℕ) → calls j ≤ calls2 j) → IsTied c opening events begun placer (updated stance k (putting r i w t)) calls2 (with_put g r t (pending k i))
  tied_drew r i w t calls2 stands is above calls_rise =
      let now : PutsNow events (begun k) k r w = rw stands at (tied.called.doing k) in
      let empty : is_placed (g.puts r t) ≡ false = ap is_placed is in
      let apart : (q u : ℕ) → is_placed (g.puts q u) ≡ true → q ≡ r → u ≡ t
      → ⊥ = λ q u full ring ticket. (let clash : is_placed (g.puts r t) ≡ true = rw (← ring, ← ticket) full in cc) in
      let drawn = placed_drawn c opening events begun placer stance calls g.puts tied.origin tied.placed r t empty (pending k i) now.s refl
      (λ j x same. let seat : k ≡ j = cc in rw (← seat) now.under)
      (inr (started_within events k (length events) now.s now.under))
      (λ u full le. let none = ap is_placed (above u le) in absurd (cc)) in
      record {
        origin = updated_entry tied.origin r t now.s;
        since = tied.since;
        ended = tied.ended;
        called = called_on events begun stance k (putting r i w t) tied.called now;
        placed =
            placed_on c opening events begun placer stance calls (updated_entry g.puts r t (pending k i)) (updated_entry tied.origin r t now.s) drawn
            (updated stance k (putting r i w t)) calls2 (due_else begun stance k (putting r i w t) (rw stands (omega arith))) calls_rise;
        taken =
            taken_kept events placer g.puts g.gets tied.origin tied.since tied.ended tied.taken placer (updated_entry g.puts r t (pending k i))
            (updated_entry tied.origin r t now.s)
            (λ q u full. updated_entry_else g.puts r t (pending k i) q u (apart q u full))
            (λ q u full. refl)
            (λ q u full. updated_entry_else tied.origin r t now.s q u (apart q u full));
        emptied =
            emptied_kept opening events placer stance g.puts g.gets tied.since tied.emptied placer (updated stance k (putting r i w t))
            (updated_entry g.puts r t (pending k i)) g.gets tied.since
            (λ q u full. (ap is_placed (updated_entry_else g.puts r t (pending k i) q u (apart q u full)) ∙ full, refl)) (λ q u z. (z, refl))
            (λ j q u at. inl (leaves_else stance k (putting r i w t) (λ a b z. cc) j q u at).0);
        lands =
            λ j q x u y is.
            let old = lands_else stance k (putting r i w t) (λ a b d z e. cc) j q x u y is in
            tied.lands j q x u y old.1;
      }

module _ (c : Setup) (opening : List (List ℕ)) (events : List history.Event) (begun : ℕ → ℕ) (placer : ℕ → ℕ → PutName) (stance : ℕ → Stance) (calls : ℕ → ℕ)
    (g : Ghost) (tied : IsTied c opening events begun placer stance calls g) (k : ℕ) where
  -- a put fails with its ticket
  pub tied_fell : (r i : ℕ) (w : List ℕ) (t time found : ℕ) (calls2 : ℕ → ℕ) → stance k ≡ putting r i w t → g.puts r t ≡ pending k i
      → ((j : ℕ) → calls j ≤ calls2 j) → IsTied c opening events begun placer (updated stance k (drawing r i w)) calls2 (with_put g r t (failed time i found))
  tied_fell r i w t time found calls2 stands is calls_rise =
      let now : PutsNow events (begun k) k r w = rw stands at (tied.called.doing k) in
      let empty : is_placed (g.puts r t) ≡ false = ap is_placed is in
      let apart : (q u : ℕ) → is_placed (g.puts q u) ≡ true → q ≡ r → u ≡ t
      → ⊥ = λ q u full ring ticket. (let clash : is_placed (g.puts r t) ≡ true = rw (← ring, ← ticket) full in cc) in
      let drawn = placed_drawn c opening events begun placer stance calls g.puts tied.origin tied.placed r t empty (failed time i found) (tied.origin r t) refl
      (λ j x same. absurd (cc))
      (tied.placed.early r t)
      (λ u full le. refl) in
      record {
        origin = updated_entry tied.origin r t (tied.origin r t);
        since = tied.since;
        ended = tied.ended;
        called = called_on events begun stance k (drawing r i w) tied.called now;
        placed =
            placed_on c opening events begun placer stance calls (updated_entry g.puts r t (failed time i found))
            (updated_entry tied.origin r t (tied.origin r t)) drawn (updated stance k (drawing r i w)) calls2
            (due_else begun stance k (drawing r i w) (rw stands (omega arith))) calls_rise;
        taken =
            taken_kept events placer g.puts g.gets tied.origin tied.since tied.ended tied.taken placer (updated_entry g.puts r t (failed time i found))
            (updated_entry tied.origin r t (tied.origin r t))
            (λ q u full. updated_entry_else g.puts r t (failed time i found) q u (apart q u full))
            (λ q u full. refl)
            (λ q u full. updated_entry_else tied.origin r t (tied.origin r t) q u (apart q u full));
        emptied =
            emptied_kept opening events placer stance g.puts g.gets tied.since tied.emptied placer (updated stance k (drawing r i w))
            (updated_entry g.puts r t (failed time i found)) g.gets tied.since
            (λ q u full. (ap is_placed (updated_entry_else g.puts r t (failed time i found) q u (apart q u full)) ∙ full, refl)) (λ q u z. (z, refl))
            (λ j q u at. inl (leaves_else stance k (drawing r i w) (λ a b z. cc) j q u at).0);
        lands =
            λ j q x u y is.
            let old = lands_else stance k (drawing r i w) (λ a b d z e. cc) j q x u y is in
            tied.lands j q x u y old.1;
      }

  -- a put places its index
  pub tied_laid : (r i : ℕ) (w : List ℕ) (t number : ℕ) (calls2 : ℕ → ℕ) → stance k ≡ putting r i w t → g.puts r t ≡ pending k i
      → ((j q x u : ℕ) (y : List ℕ) → stance j ≡ landed q x y u → is_placed (g.puts q u) ≡ true) → ((j : ℕ) → calls j ≤ calls2 j)
      → IsTied c opening events begun (updated_entry placer r t (Of k (begun k))) (updated stance k (landed r i w t)) calls2
      (with_put g r t (placed i w (call_of k number)))
  tied_laid r i w t number calls2 stands is full_landed calls_rise =
      let now : PutsNow events (begun k) k r w = rw stands at (tied.called.doing k) in
      let empty : is_placed (g.puts r t) ≡ false = ap is_placed is in
      let apart : (q u : ℕ) → is_placed (g.puts q u) ≡ true → q ≡ r → u ≡ t
      → ⊥ = λ q u full ring ticket. (let clash : is_placed (g.puts r t) ≡ true = rw (← ring, ← ticket) full in cc) in
      let under = tied.placed.pends r t k i is in
      let start : now.s ≡ tied.origin r t = (let a = now.under in cc) in
      let placer2 = updated_entry placer r t (Of k (begun k)) in
      let laid = placed_laid c opening events begun placer stance calls g.puts tied.origin tied.placed r t empty k i number w (landed r i w t) (rw stands refl)
      refl (subst (λ s. IsPut events k (begun k) r w s) start now.put) in
      record {
        origin = tied.origin;
        since = tied.since;
        ended = tied.ended;
        called = called_on events begun stance k (landed r i w t) tied.called now;
        placed =
            placed_on c opening events begun placer2 (updated stance k (landed r i w t)) calls (updated_entry g.puts r t (placed i w (call_of k number)))
            tied.origin laid (updated stance k (landed r i w t)) calls2 (λ j n low. low) calls_rise;
        taken =
            taken_kept events placer g.puts g.gets tied.origin tied.since tied.ended tied.taken placer2
            (updated_entry g.puts r t (placed i w (call_of k number))) tied.origin
            (λ q u full. updated_entry_else g.puts r t (placed i w (call_of k number)) q u (apart q u full))
            (λ q u full. updated_entry_else placer r t (Of k (begun k)) q u (apart q u full))
            (λ q u full. refl);
        emptied =
            emptied_kept opening events placer stance g.puts g.gets tied.since tied.emptied placer2 (updated stance k (landed r i w t))
            (updated_entry g.puts r t (placed i w (call_of k number))) g.gets tied.since
            (λ q u full. (
              ap is_placed (updated_entry_else g.puts r t (placed i w (call_of k number)) q u (apart q u full)) ∙ full,
              updated_entry_else placer r t (Of k (begun k)) q u (apart q u full),
            ))
            (λ q u z. (z, refl))
            (λ j q u at. inl (leaves_else stance k (landed r i w t) (λ a b z. cc) j q u at).0);
        lands =
            λ j q x u y at.
            elim (cases_eq j k) [
              | inl same ↦
                  let own : landed r i w t ≡ landed q x y u = sym (rw (eq-eqb j k same) refl) ∙ at in
                  let ring : r ≡ q = cc in
                  let ticket : t ≡ u = cc in
                  rw (← ring, ← ticket, same) (updated_entry_here placer r t (Of k (begun k)))
              | inr other ↦
                  let old : stance j ≡ landed q x y u = sym (updated_else stance k (landed r i w t) j other) ∙ at in
                  updated_entry_else placer r t (Of k (begun k)) q u (apart q u (full_landed j q x u y old)) ∙ tied.lands j q x u y old
            ];
      }
