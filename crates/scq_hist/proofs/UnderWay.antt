-- What `under_way` says of the events. Plan: by induction on the moment, each event either starts or ends the seat's call or
-- leaves it as it was
use Rattle.std.proofs.Common.{◌≡◌, ℕ, zero, suc, ◌<◌, ◌≤◌, ◌==◌, List, Option, Some, None, slice_get, length, refl, sym, ◌∙◌, subst, inl, inr, ◌⊎◌, arith, eq-eqb}
use Rattle.std.proofs.lemmas.Bool.{cases_order, cases_lt, cond-true}
use Rattle.std.proofs.lemmas.Bool.Decides.{eqb_tells}
use Rattle.std.proofs.lemmas.Option.{slice_get_within, none-some}
use Rattle.scq_hist.specs.Exports.{under_way, under_way_after, IsCall, HasUnderWay, StartsCall, StartsNoCall}
use Rattle.scq_hist.specs.declared.events.Call.{Call}
use Rattle.scq_hist.specs.declared.events.Event.{Event}
use Rattle.scq_hist.specs.declared.events.Event.TheVariants.{Start, End}
use Rattle.scq_hist.specs.declared.events.Reply.{Reply}

-- one event more: the call is the one that starts there, or it was under way before
after_says : (event : Option Event) (i seat s : ℕ) (before : Option ℕ) → under_way_after event i seat before ≡ Some s
    → ((s ≡ i) × ((call : Call) × (event ≡ Some (Start seat call)))) ⊎ (before ≡ Some s)
after_says (Some (Start k c)) i seat s before h =
    elim (eqb_tells k seat) [ inl e ↦ let h' = rw e.0 at h in inl (cc, (c, cc)) | inr e ↦ inr (rw e.0 at h) ]
after_says (Some (End k r)) i seat s before h =
    elim (eqb_tells k seat) [ inl e ↦ let h' = rw e.0 at h in absurd cc | inr e ↦ inr (rw e.0 at h) ]
after_says None i seat s before h = inr h

-- a call that is under way started before, at a Start of its seat
pub record Started (events : List Event) (seat m s : ℕ) : Type 0 where
  pub before : s < m
  pub call : Call
  pub starts : slice_get events s ≡ Some (Start seat call)

pub started : (events : List Event) (seat m s : ℕ) → under_way events seat m ≡ Some s → Started events seat m s
started events seat zero s h = absurd cc
started events seat (suc m) s h =
    elim (after_says (slice_get events m) m seat s (under_way events seat m) h) [
      | inl w ↦ record { before = omega arith; call = w.1.0; starts = (let e = w.1.1 in let q = w.0 in cc) }
      | inr w ↦ (let p = started events seat m s w in record { before = omega arith; call = p.call; starts = p.starts })
    ]

-- it started within the list
pub started_within : (events : List Event) (seat m s : ℕ) → under_way events seat m ≡ Some s → s < length events
started_within events seat m s h = let p = started events seat m s h in slice_get_within events s (Start seat p.call) p.starts

-- just after its End a seat has nothing under way
pub after_end : (events : List Event) (seat e : ℕ) (reply : Reply) → slice_get events e ≡ Some (End seat reply) → under_way events seat (suc e) ≡ None
after_end events seat e reply at = rw at (cond-true (seat == seat) None (under_way events seat e) (eq-eqb seat seat refl))

-- what is under way later than a moment without a call started after it
pub restarted : (events : List Event) (seat a b s : ℕ) → under_way events seat a ≡ None → a ≤ b → under_way events seat b ≡ Some s → a ≤ s
restarted events seat a zero s idle le h = absurd cc
restarted events seat a (suc b) s idle le h =
    elim (cases_lt b a) [
      | inl lt ↦ (let e : a ≡ suc b = omega arith in let idle2 : under_way events seat (suc b) ≡ None = subst (λ m. under_way events seat m ≡ None) e idle in
          absurd (none-some s (sym idle2 ∙ h)))
      | inr le2 ↦ elim (after_says (slice_get events b) b seat s (under_way events seat b) h) [
        | inl w ↦ (let q = w.0 in omega arith)
        | inr w ↦ restarted events seat a b s idle le2 w
      ]
    ]

-- one event ends one call
pub record SameCall (seat k s r : ℕ) (call other : Call) : Type 0 where
  pub seats : seat ≡ k
  pub starts : s ≡ r
  pub calls : call ≡ other

pub same_call : (events : List Event) (seat k s r e : ℕ) (call other : Call) (reply said : Reply) → IsCall events seat call s e reply
    → IsCall events k other r e said → SameCall seat k s r call other
same_call events seat k s r e call other reply said this that =
    let x = this.ends in let y = that.ends in
    let seats : seat ≡ k = cc in
    let u = this.under_way_till in let v = that.under_way_till in
    let starts : s ≡ r = cc in
    let a = this.starts in let b = that.starts in
    record { seats = seats; starts = starts; calls = cc }

-- what the seat has under way starts there
pub starts_there : (events : List Event) (seat m s : ℕ) (call : Call) → Some s ≡ under_way events seat m → StartsCall events s call
    → HasUnderWay events seat m s call
starts_there events seat m s call is start =
    let p = started events seat m s (sym is) in let e = p.starts in let here = start.1 in record { is = sym is; starts = cc }

pub must_start : (events : List Event) (seat m s : ℕ) → Some s ≡ under_way events seat m → StartsNoCall events s → ⊥
must_start events seat m s is none = let p = started events seat m s (sym is) in none p.call (seat, p.starts)

-- a call has one End
pub one_end : (events : List Event) (seat s d e : ℕ) (q r : Reply) → under_way events seat d ≡ Some s → slice_get events d ≡ Some (End seat q)
    → under_way events seat e ≡ Some s → slice_get events e ≡ Some (End seat r) → d ≡ e
one_end events seat s d e q r ud ed ue ee =
    let bd = (started events seat d s ud).before in let be = (started events seat e s ue).before in
    elim (cases_order d e) [
      | inl same ↦ same
      | inr w ↦ elim w [
        | inl lt ↦ (let x = restarted events seat (suc d) e s (after_end events seat d q ed) (omega arith) ue in absurd (omega arith))
        | inr lt ↦ (let x = restarted events seat (suc e) d s (after_end events seat e r ee) (omega arith) ud in absurd (omega arith))
      ]
    ]
