-- Opened and taken tickets and their gets in the history: where a ticket was taken, a get ended with just the put that
-- was placed there, and all tickets up to it were drawn by gets that had started.
use Rattle.std.proofs.Common.{◌≡◌, ◌≢◌, ℕ, ◌<◌, ◌≤◌, ◌⊎◌, inl, inr, true, List, [], ◌∷◌, ◌++◌, length, ap, sym, ◌∙◌, subst, arith}
use Rattle.std.specs.Prelude.{Some, slice_get}
use Rattle.scq_core.specs.Exports.{updated_entry}
use Rattle.scq_core.proofs.UpdatedLemmas.{updated_entry_or, updated_entry_here}
use Rattle.scq_hist.specs.Exports.{IsCall}
use Rattle.scq_hist.proofs.UnderWay.{started_within}
use Rattle.scq_hist.specs.declared.events.Call.TheVariants.{Get}
use Rattle.scq_hist.specs.declared.events.Event.{Event}
use Rattle.scq_hist.specs.declared.events.Event.TheVariants.{Start, End}
use Rattle.scq_hist.specs.declared.events.PutName.{PutName}
use Rattle.scq_hist.specs.declared.events.Reply.TheVariants.{Got}
use Rattle.scq_law.specs.Exports.{Maker}
use Rattle.scq_law.proofs.Base.Ghosts.{PutState, GetState, placed, is_placed, opened, took}
use Rattle.scq_law.proofs.Aspects.GrowingHistory.{under_now, at_grown, new_at, kept_at, under_old, length_grown, call_grown, seat_of, under_else}
use Rattle.scq_law.proofs.Base.BaseGroup.{updated_entry_else}

-- a ticket that the seat took: its get
pub record Taking (events : List Event) (placer : ℕ → ℕ → PutName) (puts : ℕ → ℕ → PutState) (origin since ended : ℕ → ℕ → ℕ) (r h k : ℕ) : Type 0 where
  pub index : ℕ
  pub content : List ℕ
  pub maker : Maker
  pub is : puts r h ≡ placed index content maker
  pub call : IsCall events k (Get r) (since r h) (ended r h) (Got (placer r h) content)
  pub earlier : (u : ℕ) → u ≤ h → since r u < ended r h
  pub begun : origin r h < ended r h

-- the ticket of an End with Got
pub record Gotten (placer : ℕ → ℕ → PutName) (gets : ℕ → ℕ → GetState) (ended : ℕ → ℕ → ℕ) (e : ℕ) (name : PutName) : Type 0 where
  pub r : ℕ
  pub h : ℕ
  pub seat : ℕ
  pub number : ℕ
  pub is : gets r h ≡ took seat number
  pub at : ended r h ≡ e
  pub named : placer r h ≡ name

pub record GetsAreTaken (events : List Event) (placer : ℕ → ℕ → PutName) (puts : ℕ → ℕ → PutState) (gets : ℕ → ℕ → GetState) (origin since ended : ℕ → ℕ → ℕ) : Type
    0 where
  pub early : (r h : ℕ) → (since r h ≡ 0) ⊎ (since r h < length events)
  pub opens : (r h k : ℕ) → gets r h ≡ opened k → under_now events k ≡ Some (since r h)
  pub takes : (r h k j : ℕ) → gets r h ≡ took k j → Taking events placer puts origin since ended r h k
  pub got : (e k : ℕ) (name : PutName) (w : List ℕ) → slice_get events e ≡ Some (End k (Got name w)) → Gotten placer gets ended e name

-- a taken ticket isn't one that nobody took
took_apart : (gets : ℕ → ℕ → GetState) (r h q u k j : ℕ) → ((k j : ℕ) → gets r h ≢ took k j) → gets q u ≡ took k j → q ≡ r → u ≡ h → ⊥
took_apart gets r h q u k j free is ring ticket = free k j (rw (← ring, ← ticket) is)

module _ (events : List Event) (placer : ℕ → ℕ → PutName) (puts : ℕ → ℕ → PutState) (gets : ℕ → ℕ → GetState) (origin since ended : ℕ → ℕ → ℕ)
    (was : GetsAreTaken events placer puts gets origin since ended) where
  -- an event is recorded that is no Got
  pub taken_grown : (x : Event) → ((r h j : ℕ) → gets r h ≡ opened j → seat_of x ≢ j) → ((k : ℕ) (name : PutName) (w : List ℕ) → x ≢ End k (Got name w))
      → GetsAreTaken (events ++ x ∷ []) placer puts gets origin since ended
  taken_grown x other no_got =
      record {
        early = λ r h. elim (was.early r h) [ inl none ↦ inl none | inr less ↦ inr (let long = length_grown events x in omega arith) ];
        opens = λ r h k is. under_else events x k (other r h k is) ∙ was.opens r h k is;
        takes =
            λ r h k j is.
            let t = was.takes r h k j is in
            record { index = t.index; content = t.content; maker = t.maker; is = t.is; earlier = t.earlier; begun = t.begun; call = call_grown events x k (Get r) (since r h) (ended r h) (Got (placer r h) t.content) t.call };
        got =
            λ e k name w at.
            elim (at_grown events x e (End k (Got name w)) at) [
              | inl old ↦ was.got e k name w old
              | inr new ↦ absurd (no_got k name w new.1)
            ];
      }

  -- what changes about puts leaves placed tickets as they are
  pub taken_kept : (placer2 : ℕ → ℕ → PutName) (puts2 : ℕ → ℕ → PutState) (origin2 : ℕ → ℕ → ℕ)
      → ((r h : ℕ) → is_placed (puts r h) ≡ true → puts2 r h ≡ puts r h) → ((r h : ℕ) → is_placed (puts r h) ≡ true → placer2 r h ≡ placer r h)
      → ((r h : ℕ) → is_placed (puts r h) ≡ true → origin2 r h ≡ origin r h) → GetsAreTaken events placer2 puts2 gets origin2 since ended
  taken_kept placer2 puts2 origin2 same_puts same_name same_origin =
      record {
        early = was.early;
        opens = was.opens;
        takes =
            λ r h k j is.
            let t = was.takes r h k j is in
            let full : is_placed (puts r h) ≡ true = ap is_placed t.is in
            record { index = t.index; content = t.content; maker = t.maker; is = same_puts r h full ∙ t.is; call = rw (same_name r h full) t.call; earlier = t.earlier; begun = rw (same_origin r h full) t.begun };
        got =
            λ e k name w at.
            let g = was.got e k name w at in
            let full : is_placed (puts g.r g.h) ≡ true = ap is_placed (was.takes g.r g.h g.seat g.number g.is).is in
            record { r = g.r; h = g.h; seat = g.seat; number = g.number; is = g.is; at = g.at; named = same_name g.r g.h full ∙ g.named };
      }

module _ (events : List Event) (placer : ℕ → ℕ → PutName) (puts : ℕ → ℕ → PutState) (gets : ℕ → ℕ → GetState) (origin since ended : ℕ → ℕ → ℕ)
    (was : GetsAreTaken events placer puts gets origin since ended)
    (r h : ℕ) (free : (k j : ℕ) → gets r h ≢ took k j) where
  -- a ticket that nobody took becomes another such, drawn by a call that started at position o
  pub taken_drawn : (x : GetState) (o : ℕ) → ((k j : ℕ) → x ≢ took k j) → ((j : ℕ) → x ≡ opened j → under_now events j ≡ Some o)
      → (o ≡ 0) ⊎ (o < length events) → ((u k j : ℕ) → gets r u ≡ took k j → h ≤ u → o ≡ since r h)
      → GetsAreTaken events placer puts (updated_entry gets r h x) origin (updated_entry since r h o) ended
  taken_drawn x o still now soon high =
      record {
        early = λ q u. elim (updated_entry_or since r h o q u) [ inl a ↦ rw a.2 soon | inr a ↦ rw a.1 (was.early q u) ];
        opens =
            λ q u k is.
            elim (updated_entry_or gets r h x q u) [
              | inl a ↦ now k (sym a.2 ∙ is) ∙ ap Some (sym (rw (a.0, a.1) (updated_entry_here since r h o)))
              | inr a ↦ was.opens q u k (sym a.1 ∙ is) ∙ ap Some (sym (updated_entry_else since r h o q u a.0))
            ];
        takes =
            λ q u k j is.
            elim (updated_entry_or gets r h x q u) [
              | inl a ↦ absurd (still k j (sym a.2 ∙ is))
              | inr a ↦
                  let there : gets q u ≡ took k j = sym a.1 ∙ is in
                  let t = was.takes q u k j there in
                  let same : updated_entry since r h o q u ≡ since q u = updated_entry_else since r h o q u a.0 in
                  record {
                    index = t.index;
                    content = t.content;
                    maker = t.maker;
                    is = t.is;
                    call = subst (λ s. IsCall events k (Get q) s (ended q u) (Got (placer q u) t.content)) (sym same) t.call;
                    earlier =
                        λ v le.
                        let old = t.earlier v le in
                        elim (updated_entry_or since r h o q v) [
                          | inl b ↦
                              let ring = b.0 in
                              let ticket = b.1 in
                              let here : gets r u ≡ took k j = rw (← ring) there in
                              let is_old : o ≡ since r h = high u k j here (omega arith) in
                              let old_here : since r h < ended q u =
                              subst (λ z. since z h < ended q u) ring (subst (λ z. since q z < ended q u) ticket old) in
                              rw b.2 (omega arith)
                          | inr b ↦ rw b.1 old
                        ];
                    begun = t.begun;
                  }
            ];
        got =
            λ e k name w at.
            let g = was.got e k name w at in
            record { r = g.r; h = g.h; seat = g.seat; number = g.number; at = g.at; named = g.named; is = updated_entry_else gets r h x g.r g.h (took_apart gets r h g.r g.h g.seat g.number free g.is) ∙ g.is };
      }

-- a seat takes what is placed at its ticket, and its get ends so
module _ (events : List Event) (placer : ℕ → ℕ → PutName) (puts : ℕ → ℕ → PutState) (gets : ℕ → ℕ → GetState) (origin since ended : ℕ → ℕ → ℕ)
    (was : GetsAreTaken events placer puts gets origin since ended)
    (r h : ℕ) (free : (k j : ℕ) → gets r h ≢ took k j) (k number i : ℕ) (w : List ℕ) (b : Maker) where
  abbrev x : Event
  x = End k (Got (placer r h) w)

  abbrev ended2 : ℕ → ℕ → ℕ
  ended2 = updated_entry ended r h (length events)

  abbrev gets2 : ℕ → ℕ → GetState
  gets2 = updated_entry gets r h (took k number)

  pub taken_taken : gets r h ≡ opened k → ((q u : ℕ) → gets q u ≡ opened k → (q ≡ r) × (u ≡ h)) → puts r h ≡ placed i w b
      → slice_get events (since r h) ≡ Some (Start k (Get r)) → (origin r h ≡ 0) ⊎ (origin r h < length events)
      → GetsAreTaken (events ++ x ∷ []) placer puts gets2 origin since ended2
  taken_taken mine only is starts origin_early =
      let under : under_now events k ≡ Some (since r h) = was.opens r h k mine in
      let some : since r h < length events = started_within events k (length events) (since r h) under in
      record {
        early = λ q u. elim (was.early q u) [ inl none ↦ inl none | inr less ↦ inr (let long = length_grown events x in omega arith) ];
        opens =
            λ q u j at.
            elim (updated_entry_or gets r h (took k number) q u) [
              | inl a ↦ absurd (cc)
              | inr a ↦
                  let there : gets q u ≡ opened j = sym a.1 ∙ at in
                  let other : k ≢ j = λ same. (let one = only q u (there ∙ ap opened (sym same)) in a.0 one.0 one.1) in
                  under_else events x j other ∙ was.opens q u j there
            ];
        takes =
            λ q u j n at.
            elim (updated_entry_or gets r h (took k number) q u) [
              | inl a ↦
                  let same : took k number ≡ took j n = sym a.2 ∙ at in
                  let seat : j ≡ k = cc in
                  let last : ended2 q u ≡ length events = rw (a.0, a.1) (updated_entry_here ended r h (length events)) in
                  let here : Taking (events ++ x ∷ []) placer puts origin since ended2 r h k =
                  record {
                    index = i;
                    content = w;
                    maker = b;
                    is = is;
                    call =
                        rw (updated_entry_here ended r h (length events))
                        (record {
                          starts = kept_at events x (since r h) _ starts;
                          under_way_till = under_old events x k (length events) (omega arith) ∙ under;
                          ends = new_at events x;
                        });
                    earlier = λ v le. rw (updated_entry_here ended r h (length events)) (elim (was.early r v) [ inl none ↦ omega arith | inr less ↦ less ]);
                    begun = rw (updated_entry_here ended r h (length events)) (elim origin_early [ inl none ↦ omega arith | inr less ↦ less ]);
                  } in
                  subst (λ z. Taking (events ++ x ∷ []) placer puts origin since ended2 q u z) (sym seat)
                  (subst (λ z. Taking (events ++ x ∷ []) placer puts origin since ended2 z u k) (sym a.0)
                  (subst (λ z. Taking (events ++ x ∷ []) placer puts origin since ended2 r z k) (sym a.1) here))
              | inr a ↦
                  let there : gets q u ≡ took j n = sym a.1 ∙ at in
                  let t = was.takes q u j n there in
                  let same : ended2 q u ≡ ended q u = updated_entry_else ended r h (length events) q u a.0 in
                  record {
                    index = t.index;
                    content = t.content;
                    maker = t.maker;
                    is = t.is;
                    call = subst (λ e. IsCall (events ++ x ∷ []) j (Get q) (since q u) e (Got (placer q u) t.content)) (sym same)
                        (call_grown events x j (Get q) (since q u) (ended q u) _ t.call);
                    earlier = λ v le. let old = t.earlier v le in subst (λ e. since q v < e) (sym same) old;
                    begun = let old = t.begun in subst (λ e. origin q u < e) (sym same) old;
                  }
            ];
        got =
            λ e j name y at.
            elim (at_grown events x e (End j (Got name y)) at) [
              | inl old ↦
                  let g = was.got e j name y old in
                  let apart = took_apart gets r h g.r g.h g.seat g.number free g.is in
                  record { r = g.r; h = g.h; seat = g.seat; number = g.number; is = updated_entry_else gets r h (took k number) g.r g.h apart ∙ g.is; at = updated_entry_else ended r h (length events) g.r g.h apart ∙ g.at; named = g.named }
              | inr new ↦
                  let same = new.1 in
                  record {
                    r = r;
                    h = h;
                    seat = k;
                    number = number;
                    is = updated_entry_here gets r h (took k number);
                    at = updated_entry_here ended r h (length events) ∙ sym new.0;
                    named = cc;
                  }
            ];
      }
