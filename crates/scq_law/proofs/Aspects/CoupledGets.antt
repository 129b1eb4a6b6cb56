-- The tie between a run's history and its state, kept by the events of a get with a ticket: it draws one, gives it up,
-- takes there.
use Rattle.std.proofs.Common.{◌≡◌, ◌≢◌, ℕ, ◌≤◌, inl, inr, false, List, [], ◌∷◌, ◌++◌, length, refl, ap, sym, ◌∙◌, arith}
use Rattle.scq_word.specs.declared.setup.Setup.{Setup}
use Rattle.scq_core.specs.Exports.{updated, updated_entry, Stance, resting, seeking, trying, gave_up}
use Rattle.scq_core.proofs.UpdatedLemmas.{updated_entry_or, updated_entry_same}
use Rattle.scq_hist.proofs.UnderWay.{started_within}
use Rattle.scq_hist.specs.declared.events.Event as history
use Rattle.scq_hist.specs.declared.events.Event.TheVariants.{End}
use Rattle.scq_hist.specs.declared.events.PutName.{PutName}
use Rattle.scq_hist.specs.declared.events.Reply.TheVariants.{Got}
use Rattle.scq_law.specs.Exports.{Maker}
use Rattle.scq_law.proofs.Base.Ghosts.{Ghost, pending, placed, unopened, opened, dead, took, with_get}
use Rattle.scq_law.proofs.Aspects.CallsUnderWay.{GetsNow, called_end, called_on, get_answer}
use Rattle.scq_law.proofs.Aspects.PlacedPuts.{placed_grown, placed_on}
use Rattle.scq_law.proofs.Base.BaseGroup.{updated_entry_else}
use Rattle.scq_law.proofs.Aspects.SeenEmpty.{emptied_grown, emptied_kept}
use Rattle.scq_law.proofs.Aspects.TakenGets.{taken_drawn, taken_taken}
use Rattle.scq_law.proofs.Aspects.Coupling.{IsTied, lands_else, due_else, leaves_else}

module _ (c : Setup) (opening : List (List ℕ)) (events : List history.Event) (begun : ℕ → ℕ) (placer : ℕ → ℕ → PutName) (stance : ℕ → Stance) (calls : ℕ → ℕ)
    (g : Ghost) (tied : IsTied c opening events begun placer stance calls g) (k : ℕ) where
  -- a get draws a ticket
  pub tied_began : (r h : ℕ) (calls2 : ℕ → ℕ) → stance k ≡ seeking r → ((u : ℕ) → h ≤ u → g.gets r u ≡ unopened) → ((j : ℕ) → calls j ≤ calls2 j)
      → IsTied c opening events begun placer (updated stance k (trying r h)) calls2 (with_get g r h (opened k))
  tied_began r h calls2 stands above calls_rise =
      let now : GetsNow events k r = rw stands at (tied.called.doing k) in
      let is : g.gets r h ≡ unopened = above h (omega arith) in
      record {
        origin = tied.origin;
        since = updated_entry tied.since r h now.s;
        ended = tied.ended;
        called = called_on events begun stance k (trying r h) tied.called now;
        placed = placed_on c opening events begun placer stance calls g.puts tied.origin tied.placed (updated stance k (trying r h)) calls2
            (due_else begun stance k (trying r h) (omega arith)) calls_rise;
        taken =
            taken_drawn events placer g.puts g.gets tied.origin tied.since tied.ended tied.taken r h (λ j n at. cc) (opened k) now.s (λ j n at. cc)
            (λ j same. let seat : k ≡ j = cc in rw (← seat) now.under)
            (inr (started_within events k (length events) now.s now.under))
            (λ u j n at le. let none = above u le in absurd (cc));
        emptied =
            emptied_kept opening events placer stance g.puts g.gets tied.since tied.emptied placer (updated stance k (trying r h)) g.puts
            (updated_entry g.gets r h (opened k)) (updated_entry tied.since r h now.s) (λ q u z. (z, refl))
            (λ q u some.
            let far : q ≡ r → u ≡ h → ⊥ = λ ring ticket. some (rw (ring, ticket) is) in
            (λ at. some (sym (updated_entry_else g.gets r h (opened k) q u far) ∙ at), updated_entry_else tied.since r h now.s q u far))
            (λ j q u at. inl (leaves_else stance k (trying r h) (λ a b z. cc) j q u at).0);
        lands =
            λ j q x u y at.
            let old = lands_else stance k (trying r h) (λ a b d z e. cc) j q x u y at in
            tied.lands j q x u y old.1;
      }

  -- a get gives its ticket up
  pub tied_died : (r h : ℕ) (calls2 : ℕ → ℕ) → stance k ≡ trying r h → g.gets r h ≡ opened k → ((j : ℕ) → calls j ≤ calls2 j)
      → IsTied c opening events begun placer (updated stance k (gave_up r h false)) calls2 (with_get g r h dead)
  tied_died r h calls2 stands is calls_rise =
      let now : GetsNow events k r = rw stands at (tied.called.doing k) in
      record {
        origin = tied.origin;
        since = updated_entry tied.since r h (tied.since r h);
        ended = tied.ended;
        called = called_on events begun stance k (gave_up r h false) tied.called now;
        placed = placed_on c opening events begun placer stance calls g.puts tied.origin tied.placed (updated stance k (gave_up r h false)) calls2
            (due_else begun stance k (gave_up r h false) (omega arith)) calls_rise;
        taken =
            taken_drawn events placer g.puts g.gets tied.origin tied.since tied.ended tied.taken r h (λ j n at. cc) dead (tied.since r h) (λ j n at. cc)
            (λ j same. absurd (cc))
            (tied.taken.early r h)
            (λ u j n at le. refl);
        emptied =
            emptied_kept opening events placer stance g.puts g.gets tied.since tied.emptied placer (updated stance k (gave_up r h false)) g.puts
            (updated_entry g.gets r h dead) (updated_entry tied.since r h (tied.since r h)) (λ q u z. (z, refl))
            (λ q u some. (
              λ at. elim (updated_entry_or g.gets r h dead q u) [ inl a ↦ let was = a.2 in cc | inr a ↦ some (sym a.1 ∙ at) ],
              ap (λ (f : ℕ → ℕ → ℕ). f q u) (updated_entry_same tied.since r h),
            ))
            (λ j q u at. inl (leaves_else stance k (gave_up r h false) (λ a b z. cc) j q u at).0);
        lands =
            λ j q x u y at.
            let old = lands_else stance k (gave_up r h false) (λ a b d z e. cc) j q x u y at in
            tied.lands j q x u y old.1;
      }

  -- a get takes, and ends with Got
  pub tied_taken : (r h i : ℕ) (w : List ℕ) (b : Maker) (number : ℕ) (calls2 : ℕ → ℕ) → stance k ≡ trying r h → g.gets r h ≡ opened k
      → ((q u : ℕ) → g.gets q u ≡ opened k → (q ≡ r) × (u ≡ h)) → g.puts r h ≡ placed i w b → ((q t x : ℕ) → g.puts q t ≢ pending k x)
      → ((j : ℕ) → calls j ≤ calls2 j)
      → IsTied c opening (events ++ End k (Got (placer r h) w) ∷ []) begun placer (updated stance k resting) calls2 (with_get g r h (took k number))
  tied_taken r h i w b number calls2 stands is only there none calls_rise =
      let now : GetsNow events k r = rw stands at (tied.called.doing k) in
      let under = tied.taken.opens r h k is in
      let start : now.s ≡ tied.since r h = (let a = now.under in cc) in
      record {
        origin = tied.origin;
        since = tied.since;
        ended = updated_entry tied.ended r h (length events);
        called = called_end events begun stance k (Got (placer r h) w) tied.called (get_answer events k r (Got (placer r h) w) now tt);
        placed =
            placed_grown c opening events begun placer stance calls g.puts tied.origin tied.placed (End k (Got (placer r h) w)) begun
            (updated stance k resting) calls2
            (λ q t j x at same. none q t x (at ∙ ap (λ z. pending z x) (sym same)))
            (due_else begun stance k resting (omega arith)) calls_rise (λ j at. absurd (cc));
        taken =
            taken_taken events placer g.puts g.gets tied.origin tied.since tied.ended tied.taken r h (λ j n at. cc) k number i w b is only there
            (rw (← start) now.starts)
            (tied.placed.early r h);
        emptied =
            emptied_grown opening events placer stance g.puts (updated_entry g.gets r h (took k number)) tied.since
            (emptied_kept opening events placer stance g.puts g.gets tied.since tied.emptied placer stance g.puts (updated_entry g.gets r h (took k number))
            tied.since (λ q u z. (z, refl))
            (λ q u some. (λ at. elim (updated_entry_or g.gets r h (took k number) q u) [ inl a ↦ let was = a.2 in cc | inr a ↦ some (sym a.1 ∙ at) ], refl))
            (λ j q u at. inl at))
            (End k (Got (placer r h) w)) (updated stance k resting) (leaves_else stance k resting (λ a b z. cc)) (λ j z. absurd (cc));
        lands =
            λ j q x u y at.
            let old = lands_else stance k resting (λ a b d z e. cc) j q x u y at in
            tied.lands j q x u y old.1;
      }
