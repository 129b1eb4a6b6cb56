-- Placed tickets and their puts in the history: each has a name of its own, of a put that started where the diary says;
-- where a put has ended with Done, all tickets up to its place were drawn by puts that had started.
use Rattle.std.proofs.Common.{◌≡◌, ◌≢◌, ℕ, ◌+◌, ◌<◌, ◌≤◌, ◌⊎◌, inl, inr, true, false, refl, List, [], ◌∷◌, ◌++◌, length, ap, sym, ◌∙◌, subst, arith, eq-eqb, ne_eqb}
use Rattle.std.specs.Prelude.{Some, slice_get}
use Rattle.std.proofs.lemmas.Bool.{cases_eq}
use Rattle.std.proofs.lemmas.Option.{slice_get_within}
use Rattle.scq_word.specs.declared.setup.Setup.{Setup}
use Rattle.scq_word.specs.Exports.{n_of}
use Rattle.scq_core.specs.Exports.{updated, updated_entry, ring_slots, Stance, drawing, putting}
use Rattle.scq_core.proofs.UpdatedLemmas.{updated_entry_or, updated_entry_here}
use Rattle.scq_hist.specs.Exports.{under_way, IsPut}
use Rattle.scq_hist.specs.declared.events.Event.{Event}
use Rattle.scq_hist.specs.declared.events.Event.TheVariants.{End}
use Rattle.scq_hist.specs.declared.events.PutName.{PutName}
use Rattle.scq_hist.specs.declared.events.PutName.TheVariants.{Opening, Of}
use Rattle.scq_hist.specs.declared.events.Reply.TheVariants.{Done}
use Rattle.scq_law.specs.Exports.{Maker, call_of}
use Rattle.scq_law.proofs.Base.BaseGroup.{updated_entry_else}
use Rattle.scq_law.proofs.Base.Ghosts.{PutState, pending, placed, is_placed}
use Rattle.scq_law.proofs.Aspects.GrowingHistory.{under_now, at_grown, under_old, length_grown, put_grown, seat_of, under_else}

-- the put of this name is an opening token of queue 0 with this content, or a seat's put of this queue that starts at s
abbrev pub NamesPut : List (List ℕ) → List Event → PutName → ℕ → List ℕ → ℕ → Type 0
NamesPut opening events (Opening j) r w s = (r ≡ 0) × (slice_get opening j ≡ Some w)
NamesPut opening events (Of k n) r w s = IsPut events k n r w s

-- a seat's put that is under way and not placed yet
abbrev pub due : Stance → ℕ
due (drawing r i w) = 1
due (putting r i w t) = 1
due _ = 0

-- an opening token's place
pub record IsToken (c : Setup) (placer : ℕ → ℕ → PutName) (puts : ℕ → ℕ → PutState) (j : ℕ) : Type 0 where
  pub is : is_placed (puts 0 (ring_slots c + j)) ≡ true
  pub name : placer 0 (ring_slots c + j) ≡ Opening j

-- where a put of the seat ended with Done, at event e: its place
pub record Landing (events : List Event) (placer : ℕ → ℕ → PutName) (calls : ℕ → ℕ) (puts : ℕ → ℕ → PutState) (origin : ℕ → ℕ → ℕ) (e k : ℕ) : Type 0 where
  pub r : ℕ
  pub p : ℕ
  pub n : ℕ
  pub index : ℕ
  pub content : List ℕ
  pub number : ℕ
  pub is : puts r p ≡ placed index content (call_of k number)
  pub ended : number < calls k
  pub name : placer r p ≡ Of k n
  pub under : under_way events k e ≡ Some (origin r p)
  pub later : (t : ℕ) → t ≤ p → origin r t < e

pub record PutsArePlaced (c : Setup) (opening : List (List ℕ)) (events : List Event) (begun : ℕ → ℕ) (placer : ℕ → ℕ → PutName) (stance : ℕ → Stance)
    (calls : ℕ → ℕ) (puts : ℕ → ℕ → PutState) (origin : ℕ → ℕ → ℕ) : Type 0 where
  pub stood : (j : ℕ) → j < n_of c.order → IsToken c placer puts j
  pub tokens : (r p j : ℕ) → placer r p ≡ Opening j → (r ≡ 0) × (p ≡ ring_slots c + j)
  pub named : (r p i : ℕ) (w : List ℕ) (b : Maker) → puts r p ≡ placed i w b → NamesPut opening events (placer r p) r w (origin r p)
  pub pends : (r t k i : ℕ) → puts r t ≡ pending k i → under_now events k ≡ Some (origin r t)
  pub low : (r p k n : ℕ) → is_placed (puts r p) ≡ true → placer r p ≡ Of k n → n + due (stance k) ≤ begun k
  pub one : (r p q u : ℕ) → is_placed (puts r p) ≡ true → is_placed (puts q u) ≡ true → placer r p ≡ placer q u → (r ≡ q) × (p ≡ u)
  pub early : (r t : ℕ) → (origin r t ≡ 0) ⊎ (origin r t < length events)
  pub done : (e k : ℕ) → slice_get events e ≡ Some (End k Done) → Landing events placer calls puts origin e k

-- where its put, its name and where that started are as they were
landing_still : {events events2 : List Event} {placer placer2 : ℕ → ℕ → PutName} {calls calls2 : ℕ → ℕ} {puts puts2 : ℕ → ℕ → PutState}
    {origin origin2 : ℕ → ℕ → ℕ} {e k : ℕ} → (l : Landing events placer calls puts origin e k) → puts2 l.r l.p ≡ puts l.r l.p → calls k ≤ calls2 k
    → placer2 l.r l.p ≡ placer l.r l.p → under_way events2 k e ≡ Some (origin2 l.r l.p) → ((t : ℕ) → t ≤ l.p → origin2 l.r t < e)
    → Landing events2 placer2 calls2 puts2 origin2 e k
landing_still l put rises name under later =
    let ended = l.ended in
    record { r = l.r; p = l.p; n = l.n; index = l.index; content = l.content; number = l.number; is = put ∙ l.is; ended = omega arith; name = name ∙ l.name; under = under; later = later }

-- a placed ticket isn't one at which nothing is placed
apart_from : (puts : ℕ → ℕ → PutState) (r t q u : ℕ) → is_placed (puts r t) ≡ false → is_placed (puts q u) ≡ true → q ≡ r → u ≡ t → ⊥
apart_from puts r t q u empty full ring ticket = let clash : is_placed (puts r t) ≡ true = rw (← ring, ← ticket) full in cc

module _ (c : Setup) (opening : List (List ℕ)) (events : List Event) (begun : ℕ → ℕ) (placer : ℕ → ℕ → PutName) (stance : ℕ → Stance) (calls : ℕ → ℕ)
    (puts : ℕ → ℕ → PutState) (origin : ℕ → ℕ → ℕ) (was : PutsArePlaced c opening events begun placer stance calls puts origin) where
  named_grown : (x : Event) (name : PutName) (r : ℕ) (w : List ℕ) (s : ℕ) → NamesPut opening events name r w s → NamesPut opening (events ++ x ∷ []) name r w s
  named_grown x (Opening j) r w s is = is
  named_grown x (Of k n) r w s is = put_grown events x k n r w s is

  -- an event is recorded, and what is due doesn't grow more than what began
  pub placed_grown : (x : Event) (begun2 : ℕ → ℕ) (stance2 : ℕ → Stance) (calls2 : ℕ → ℕ) → ((r t j i : ℕ) → puts r t ≡ pending j i → seat_of x ≢ j)
      → ((k n : ℕ) → n + due (stance k) ≤ begun k → n + due (stance2 k) ≤ begun2 k) → ((k : ℕ) → calls k ≤ calls2 k)
      → ((k : ℕ) → x ≡ End k Done → Landing (events ++ x ∷ []) placer calls2 puts origin (length events) k)
      → PutsArePlaced c opening (events ++ x ∷ []) begun2 placer stance2 calls2 puts origin
  placed_grown x begun2 stance2 calls2 other low calls_rise landing =
      record {
        stood = was.stood;
        tokens = was.tokens;
        named = λ r p i w b is. named_grown x (placer r p) r w (origin r p) (was.named r p i w b is);
        pends = λ r t k i is. under_else events x k (other r t k i is) ∙ was.pends r t k i is;
        low = λ r p k n is name. low k n (was.low r p k n is name);
        one = was.one;
        early = λ r t. elim (was.early r t) [ inl none ↦ inl none | inr less ↦ inr (let long = length_grown events x in omega arith) ];
        done = λ e k at. elim (at_grown events x e (End k Done) at) [
          | inl old ↦
              let l = was.done e k old in
              let low_e = slice_get_within events e (End k Done) old in
              landing_still l refl (calls_rise k) refl (under_old events x k e (omega arith) ∙ l.under) l.later
          | inr new ↦ subst (λ d. Landing (events ++ x ∷ []) placer calls2 puts origin d k) (sym new.0) (landing k new.1)
        ];
      }

  -- no event is recorded
  pub placed_on : (stance2 : ℕ → Stance) (calls2 : ℕ → ℕ) → ((k n : ℕ) → n + due (stance k) ≤ begun k → n + due (stance2 k) ≤ begun k)
      → ((k : ℕ) → calls k ≤ calls2 k) → PutsArePlaced c opening events begun placer stance2 calls2 puts origin
  placed_on stance2 calls2 low calls_rise =
      record {
        stood = was.stood;
        tokens = was.tokens;
        named = was.named;
        pends = was.pends;
        low = λ r p k n is name. low k n (was.low r p k n is name);
        one = was.one;
        early = was.early;
        done =
            λ e k at.
            let l = was.done e k at in landing_still l refl (calls_rise k) refl l.under l.later;
      }

-- a ticket at which nothing is placed becomes another such, drawn by a call that started at position o
module _ (c : Setup) (opening : List (List ℕ)) (events : List Event) (begun : ℕ → ℕ) (placer : ℕ → ℕ → PutName) (stance : ℕ → Stance) (calls : ℕ → ℕ)
    (puts : ℕ → ℕ → PutState) (origin : ℕ → ℕ → ℕ) (was : PutsArePlaced c opening events begun placer stance calls puts origin)
    (r t : ℕ) (empty : is_placed (puts r t) ≡ false) (x : PutState) (o : ℕ) (still : is_placed x ≡ false) where
  abbrev puts2 : ℕ → ℕ → PutState
  puts2 = updated_entry puts r t x

  abbrev origin2 : ℕ → ℕ → ℕ
  origin2 = updated_entry origin r t o

  old_full : (q u : ℕ) → is_placed (puts2 q u) ≡ true → is_placed (puts q u) ≡ true
  old_full q u full =
      elim (updated_entry_or puts r t x q u) [
        | inl a ↦ let no : is_placed (puts2 q u) ≡ false = ap is_placed a.2 ∙ still in absurd (cc)
        | inr a ↦ sym (ap is_placed a.1) ∙ full
      ]

  still_full : (q u : ℕ) → is_placed (puts q u) ≡ true → puts2 q u ≡ puts q u
  still_full q u full = updated_entry_else puts r t x q u (apart_from puts r t q u empty full)

  same_origin : (q u : ℕ) → is_placed (puts q u) ≡ true → origin2 q u ≡ origin q u
  same_origin q u full = updated_entry_else origin r t o q u (apart_from puts r t q u empty full)

  old_placed : (q u i : ℕ) (w : List ℕ) (b : Maker) → puts2 q u ≡ placed i w b → puts q u ≡ placed i w b
  old_placed q u i w b is = sym (still_full q u (old_full q u (ap is_placed is))) ∙ is

  pub placed_drawn : ((j i : ℕ) → x ≡ pending j i → under_now events j ≡ Some o) → (o ≡ 0) ⊎ (o < length events)
      → ((u : ℕ) → is_placed (puts r u) ≡ true → t ≤ u → o ≡ origin r t) → PutsArePlaced c opening events begun placer stance calls puts2 origin2
  placed_drawn now soon high =
      record {
        stood = λ j low. let token = was.stood j low in
            record { is = ap is_placed (still_full 0 (ring_slots c + j) token.is) ∙ token.is; name = token.name };
        tokens = was.tokens;
        named =
            λ q u i w b is.
            let old = old_placed q u i w b is in
            subst (λ s. NamesPut opening events (placer q u) q w s) (sym (same_origin q u (ap is_placed old))) (was.named q u i w b old);
        pends =
            λ q u k i is.
            elim (updated_entry_or puts r t x q u) [
              | inl a ↦ now k i (sym a.2 ∙ is) ∙ ap Some (sym (rw (a.0, a.1) (updated_entry_here origin r t o)))
              | inr a ↦ was.pends q u k i (sym a.1 ∙ is) ∙ ap Some (sym (updated_entry_else origin r t o q u a.0))
            ];
        low = λ q u k n is name. was.low q u k n (old_full q u is) name;
        one = λ q u p z is there. was.one q u p z (old_full q u is) (old_full p z there);
        early = λ q u. elim (updated_entry_or origin r t o q u) [ inl a ↦ rw a.2 soon | inr a ↦ rw a.1 (was.early q u) ];
        done =
            λ e k at.
            let l = was.done e k at in
            let full : is_placed (puts l.r l.p) ≡ true = ap is_placed l.is in
            landing_still l (still_full l.r l.p full) (omega arith) refl (l.under ∙ ap Some (sym (same_origin l.r l.p full)))
            (λ u le.
            let old = l.later u le in
            elim (updated_entry_or origin r t o l.r u) [
              | inl a ↦
                  let ring = a.0 in
                  let ticket = a.1 in
                  let here : is_placed (puts r l.p) ≡ true = rw (← ring) full in
                  let same : o ≡ origin r t = high l.p here (omega arith) in
                  let old_here : origin r t < e = rw (← ring, ← ticket) old in
                  rw a.2 (omega arith)
              | inr a ↦ rw a.1 old
            ]);
      }

-- a seat places its put
module _ (c : Setup) (opening : List (List ℕ)) (events : List Event) (begun : ℕ → ℕ) (placer : ℕ → ℕ → PutName) (stance : ℕ → Stance) (calls : ℕ → ℕ)
    (puts : ℕ → ℕ → PutState) (origin : ℕ → ℕ → ℕ) (was : PutsArePlaced c opening events begun placer stance calls puts origin)
    (r t : ℕ) (empty : is_placed (puts r t) ≡ false) (k i number : ℕ) (w : List ℕ) where
  abbrev new : PutState
  new = placed i w (call_of k number)

  abbrev placer2 : ℕ → ℕ → PutName
  placer2 = updated_entry placer r t (Of k (begun k))

  kept_full : (q u : ℕ) → is_placed (puts q u) ≡ true → updated_entry puts r t new q u ≡ puts q u
  kept_full q u full = updated_entry_else puts r t new q u (apart_from puts r t q u empty full)

  kept_name : (q u : ℕ) → is_placed (puts q u) ≡ true → placer2 q u ≡ placer q u
  kept_name q u full = updated_entry_else placer r t (Of k (begun k)) q u (apart_from puts r t q u empty full)

  new_name : (q u : ℕ) → q ≡ r → u ≡ t → placer2 q u ≡ Of k (begun k)
  new_name q u ring ticket = rw (ring, ticket) (updated_entry_here placer r t (Of k (begun k)))

  -- no other place has the name
  fresh_name : due (stance k) ≡ 1 → (q u : ℕ) → (q ≡ r → u ≡ t → ⊥) → is_placed (puts q u) ≡ true → Of k (begun k) ≡ placer2 q u → ⊥
  fresh_name is_due q u apart full same =
      let old = was.low q u k (begun k) full (sym (same ∙ updated_entry_else placer r t (Of k (begun k)) q u apart)) in
      omega arith

  pub placed_laid : (s : Stance) → due (stance k) ≡ 1 → due s ≡ 0 → IsPut events k (begun k) r w (origin r t)
      → PutsArePlaced c opening events begun (updated_entry placer r t (Of k (begun k))) (updated stance k s) calls
      (updated_entry puts r t (placed i w (call_of k number))) origin
  placed_laid s is_due no_due is_put = record {
    stood = λ j low. let token = was.stood j low in
        record { is = ap is_placed (kept_full 0 (ring_slots c + j) token.is) ∙ token.is; name = kept_name 0 (ring_slots c + j) token.is ∙ token.name };
    tokens = λ q u j name. elim (updated_entry_or placer r t (Of k (begun k)) q u) [ inl a ↦ absurd (cc) | inr a ↦ was.tokens q u j (sym a.1 ∙ name) ];
    named = λ q u j y b is. elim (updated_entry_or puts r t new q u) [
      | inl a ↦
          let same : placed i w (call_of k number) ≡ placed j y b = sym a.2 ∙ is in
          let content : w ≡ y = cc in
          let here : placer2 q u ≡ Of k (begun k) = rw (a.0, a.1) (updated_entry_here placer r t (Of k (begun k))) in
          rw (here, a.0, a.1, ← content) is_put
      | inr a ↦
          let here : placer2 q u ≡ placer q u = updated_entry_else placer r t (Of k (begun k)) q u a.0 in
          rw here (was.named q u j y b (sym a.1 ∙ is))
    ];
    pends = λ q u j y is. elim (updated_entry_or puts r t new q u) [ inl a ↦ absurd (cc) | inr a ↦ was.pends q u j y (sym a.1 ∙ is) ];
    low = λ q u j n is name. elim (updated_entry_or puts r t new q u) [
      | inl a ↦
          let here : placer2 q u ≡ Of k (begun k) = rw (a.0, a.1) (updated_entry_here placer r t (Of k (begun k))) in
          let same : Of k (begun k) ≡ Of j n = sym here ∙ name in
          let seat : j ≡ k = cc in
          let number_is : n ≡ begun k = cc in
          rw (eq-eqb j k seat, number_is, seat, no_due) (omega arith)
      | inr a ↦
          let here : placer2 q u ≡ placer q u = updated_entry_else placer r t (Of k (begun k)) q u a.0 in
          let old = was.low q u j n (sym (ap is_placed a.1) ∙ is) (sym here ∙ name) in
          elim (cases_eq j k) [
            | inl seat ↦ rw (eq-eqb j k seat, no_due) (omega arith)
            | inr apart ↦ rw (ne_eqb j k apart) old
          ]
    ];
    one = λ q u p z is there same. elim (updated_entry_or puts r t new q u) [
      | inl a ↦ elim (updated_entry_or puts r t new p z) [
        | inl b ↦ (a.0 ∙ sym b.0, a.1 ∙ sym b.1)
        | inr b ↦ absurd (fresh_name is_due p z b.0 (sym (ap is_placed b.1) ∙ there) (sym (new_name q u a.0 a.1) ∙ same))
      ]
      | inr a ↦ elim (updated_entry_or puts r t new p z) [
        | inl b ↦ absurd (fresh_name is_due q u a.0 (sym (ap is_placed a.1) ∙ is) (sym (new_name p z b.0 b.1) ∙ sym same))
        | inr b ↦ was.one q u p z (sym (ap is_placed a.1) ∙ is) (sym (ap is_placed b.1) ∙ there)
            (sym (updated_entry_else placer r t (Of k (begun k)) q u a.0) ∙ same ∙ updated_entry_else placer r t (Of k (begun k)) p z b.0)
      ]
    ];
    early = was.early;
    done = λ e j at.
        let l = was.done e j at in
        let full : is_placed (puts l.r l.p) ≡ true = ap is_placed l.is in
        landing_still l (kept_full l.r l.p full) (omega arith) (kept_name l.r l.p full) l.under l.later;
  }
