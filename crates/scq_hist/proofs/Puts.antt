-- A name names one put
use Rattle.std.proofs.Common.{◌≡◌, ℕ, zero, suc, ◌<◌, ◌≤◌, ◌==◌, List, Some, slice_get, refl, arith, inl, inr, eq-eqb}
use Rattle.std.proofs.lemmas.Bool.{cases_order, cases_lt, cond-true}
use Rattle.scq_hist.specs.Exports.{puts_before, put_start, IsPut}
use Rattle.scq_hist.specs.declared.events.Call.TheVariants.{Put}
use Rattle.scq_hist.specs.declared.events.Event.{Event}
use Rattle.scq_hist.specs.declared.events.Event.TheVariants.{Start}

-- a later moment has no fewer puts behind it
pub puts_grow : (events : List Event) (seat a b : ℕ) → a ≤ b → puts_before events seat a ≤ puts_before events seat b
puts_grow events seat a zero h = let e : a ≡ 0 = omega arith in rw e (omega arith)
puts_grow events seat a (suc b) h =
    elim (cases_lt b a) [
      | inl lt ↦ (let e : a ≡ suc b = omega arith in rw e (omega arith))
      | inr le ↦ (let rest = puts_grow events seat a b le in omega arith)
    ]

-- a put counts itself just after its Start
pub puts_after : (events : List Event) (seat s queue : ℕ) (content : List ℕ) → slice_get events s ≡ Some (Start seat (Put queue content))
    → puts_before events seat (suc s) ≡ suc (puts_before events seat s)
puts_after events seat s queue content at =
    let one : put_start (slice_get events s) seat ≡ 1 = rw at (cond-true (seat == seat) 1 0 (eq-eqb seat seat refl)) in omega arith

put_before : (events : List Event) (seat number q r s t : ℕ) (c d : List ℕ) → IsPut events seat number q c s → IsPut events seat number r d t → s < t → ⊥
put_before events seat number q r s t c d p o lt =
    let more = puts_grow events seat (suc s) t (omega arith) in
    let one = puts_after events seat s q c p.starts in
    let x = p.counted in let y = o.counted in omega arith

pub one_start : (events : List Event) (seat number q r s t : ℕ) (c d : List ℕ) → IsPut events seat number q c s → IsPut events seat number r d t → s ≡ t
one_start events seat number q r s t c d p o =
    elim (cases_order s t) [
      | inl same ↦ same
      | inr w ↦ elim w [
        | inl lt ↦ absurd (put_before events seat number q r s t c d p o lt)
        | inr lt ↦ absurd (put_before events seat number r q t s d c o p lt)
      ]
    ]

-- what a name says of its put
pub record SamePut (q r s t : ℕ) (c d : List ℕ) : Type 0 where
  pub start : s ≡ t
  pub queue : q ≡ r
  pub content : c ≡ d

pub same_put : (events : List Event) (seat number q r s t : ℕ) (c d : List ℕ) → IsPut events seat number q c s → IsPut events seat number r d t
    → SamePut q r s t c d
same_put events seat number q r s t c d p o =
    let start = one_start events seat number q r s t c d p o in
    let a = p.starts in let b = o.starts in
    record { start = start; queue = cc; content = cc }
