-- What the seat of a turn counts among those that may yet draw a ticket of Head or change an entry:
-- a table over all phases for the ring of its call, and 1 on every other ring.
use Rattle.std.proofs.Common.{◌≡◌, ◌≢◌, ℕ, ◌≤◌, refl, arith, eq-eqb, ne_eqb}
use Rattle.std.specs.Prelude.{Option, Some, None}
use Rattle.scq_core.specs.declared.phase.Phase.{Phase}
use Rattle.scq_core.specs.declared.phase.Phase.TheVariants.{Idle, AtE1, AtE2, AtE3, AtE4, AtE5, AtE6, AtD1, AtD2, AtD3, AtD4, AtD5, AtD6, AtD7, AtD8, AtD9, AtD10}
use Rattle.scq_core.specs.Exports.{ring_of, Stance, stance_of}
use Rattle.scq_law.proofs.Progress.Potential.{draw_of, change_of}

-- what a phase counts on its own ring
abbrev pub own_draw : Phase → ℕ
own_draw Idle = 1
own_draw (AtD1 r) = 1
own_draw (AtD2 r l) = 1
own_draw phase = 0

abbrev pub own_change : Phase → ℕ
own_change (AtE5 r i w t) = 0
own_change (AtE6 r i w t) = 0
own_change (AtD6 r h) = 0
own_change (AtD7 r h from to) = 0
own_change (AtD8 r h from) = 0
own_change (AtD9 r h from to) = 0
own_change (AtD10 r h leaving) = 0
own_change phase = 1

pub draw_own : (phase : Phase) → draw_of (ring_of phase) None (stance_of phase) ≡ own_draw phase
draw_own Idle = refl
draw_own (AtE1 r i w l) = rw (eq-eqb r r refl) refl
draw_own (AtE2 r i w t l) = rw (eq-eqb r r refl) refl
draw_own (AtE3 r i w t e) = rw (eq-eqb r r refl) refl
draw_own (AtE4 r i w t e) = rw (eq-eqb r r refl) refl
draw_own (AtE5 r i w t) = rw (eq-eqb r r refl) refl
draw_own (AtE6 r i w t) = rw (eq-eqb r r refl) refl
draw_own (AtD1 r) = refl
draw_own (AtD2 r l) = refl
draw_own (AtD3 r h l) = rw (eq-eqb r r refl) refl
draw_own (AtD4 r h) = rw (eq-eqb r r refl) refl
draw_own (AtD5 r h e) = rw (eq-eqb r r refl) refl
draw_own (AtD6 r h) = rw (eq-eqb r r refl) refl
draw_own (AtD7 r h from to) = rw (eq-eqb r r refl) refl
draw_own (AtD8 r h from) = rw (eq-eqb r r refl) refl
draw_own (AtD9 r h from to) = rw (eq-eqb r r refl) refl
draw_own (AtD10 r h leaving) = rw (eq-eqb r r refl) refl

pub change_own : (phase : Phase) → change_of (ring_of phase) (stance_of phase) ≡ own_change phase
change_own Idle = refl
change_own (AtE1 r i w l) = refl
change_own (AtE2 r i w t l) = refl
change_own (AtE3 r i w t e) = refl
change_own (AtE4 r i w t e) = refl
change_own (AtE5 r i w t) = rw (eq-eqb r r refl) refl
change_own (AtE6 r i w t) = rw (eq-eqb r r refl) refl
change_own (AtD1 r) = refl
change_own (AtD2 r l) = refl
change_own (AtD3 r h l) = refl
change_own (AtD4 r h) = refl
change_own (AtD5 r h e) = refl
change_own (AtD6 r h) = rw (eq-eqb r r refl) refl
change_own (AtD7 r h from to) = rw (eq-eqb r r refl) refl
change_own (AtD8 r h from) = rw (eq-eqb r r refl) refl
change_own (AtD9 r h from to) = rw (eq-eqb r r refl) refl
change_own (AtD10 r h leaving) = rw (eq-eqb r r refl) refl

-- on another ring each counts 1
pub draw_apart : (r : ℕ) (phase : Phase) → ring_of phase ≢ r → draw_of r None (stance_of phase) ≡ 1
draw_apart r Idle other = refl
draw_apart r (AtE1 q i w l) other = rw (ne_eqb q r other) refl
draw_apart r (AtE2 q i w t l) other = rw (ne_eqb q r other) refl
draw_apart r (AtE3 q i w t e) other = rw (ne_eqb q r other) refl
draw_apart r (AtE4 q i w t e) other = rw (ne_eqb q r other) refl
draw_apart r (AtE5 q i w t) other = rw (ne_eqb q r other) refl
draw_apart r (AtE6 q i w t) other = rw (ne_eqb q r other) refl
draw_apart r (AtD1 q) other = refl
draw_apart r (AtD2 q l) other = refl
draw_apart r (AtD3 q h l) other = rw (ne_eqb q r other) refl
draw_apart r (AtD4 q h) other = rw (ne_eqb q r other) refl
draw_apart r (AtD5 q h e) other = rw (ne_eqb q r other) refl
draw_apart r (AtD6 q h) other = rw (ne_eqb q r other) refl
draw_apart r (AtD7 q h from to) other = rw (ne_eqb q r other) refl
draw_apart r (AtD8 q h from) other = rw (ne_eqb q r other) refl
draw_apart r (AtD9 q h from to) other = rw (ne_eqb q r other) refl
draw_apart r (AtD10 q h leaving) other = rw (ne_eqb q r other) refl

pub change_apart : (r : ℕ) (phase : Phase) → ring_of phase ≢ r → change_of r (stance_of phase) ≡ 1
change_apart r Idle other = refl
change_apart r (AtE1 q i w l) other = refl
change_apart r (AtE2 q i w t l) other = refl
change_apart r (AtE3 q i w t e) other = refl
change_apart r (AtE4 q i w t e) other = refl
change_apart r (AtE5 q i w t) other = rw (ne_eqb q r other) refl
change_apart r (AtE6 q i w t) other = rw (ne_eqb q r other) refl
change_apart r (AtD1 q) other = refl
change_apart r (AtD2 q l) other = refl
change_apart r (AtD3 q h l) other = refl
change_apart r (AtD4 q h) other = refl
change_apart r (AtD5 q h e) other = refl
change_apart r (AtD6 q h) other = rw (ne_eqb q r other) refl
change_apart r (AtD7 q h from to) other = rw (ne_eqb q r other) refl
change_apart r (AtD8 q h from) other = rw (ne_eqb q r other) refl
change_apart r (AtD9 q h from to) other = rw (ne_eqb q r other) refl
change_apart r (AtD10 q h leaving) other = rw (ne_eqb q r other) refl

-- a seat counts at most 1
pub draw_bit : (r : ℕ) (o : Option ℕ) (s : Stance) → draw_of r o s ≤ 1
draw_bit r (Some t) s = omega arith
draw_bit r None s = omega arith
