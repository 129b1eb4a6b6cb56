-- A get draws tickets: what it knows of Head after the last one is what it knew before, and that one.
use Rattle.std.proofs.Common.{◌≡◌, ℕ, zero, suc, ◌+◌, ◌^◌, ◌<◌, ◌≤◌, false, List, [], ◌∷◌, refl, sym, ◌∙◌, ap, subst, arith, le-leb, le-ltb, lt-ltb}
use Rattle.std.specs.Prelude.{Some, None, max, slice_get}
use Rattle.std.proofs.Math.Nat.{max-eq_left}
use Rattle.std.proofs.lemmas.Bool.{lt-leb}
use Rattle.atomic_table.specs.Table.{Me}
use Rattle.scq_word.specs.declared.setup.Setup.{Setup}
use Rattle.scq_core.specs.declared.ended.Ended.TheVariants.{Nothing}
use Rattle.scq_core.specs.declared.phase.Phase.{Phase}
use Rattle.scq_core.specs.declared.phase.Phase.TheVariants.{Idle, AtD1, AtD2, AtD3}
use Rattle.scq_core.specs.declared.step.Step.TheVariants.{D1}
use Rattle.scq_core.specs.Exports.{zero_level, turn_at, goes_on, ends, spends}
use Rattle.scq_band.specs.declared.numbers.Numbers.{Numbers}
use Rattle.scq_band.specs.Exports.{changed, passes, ring_of_word, MayTurn, Takes, Turned, my, my_phase, loading, load_turn, IsAlone, with_part}
use Rattle.scq_band.specs.Exports.{at_phase, seated, goes_to, nothing_at, got_at, SeatHasGot, drew_head, drawn_spent, to_draw}
use Rattle.scq_band.specs.Known.{Known}
use Rattle.scq_band.proofs.Outcomes.{goes_as, turned_as}

-- to know that Head is at least 0 is to know nothing
pub passes_none : (numbers : List Numbers) (r : ℕ) → changed (passes 0) r numbers ≡ numbers
passes_none [] r = refl
passes_none (x ∷ xs) zero = ap (λ h. record x { head = h } ∷ xs) (max-eq_left (omega arith))
passes_none (x ∷ xs) (suc r) = ap (λ ys. x ∷ ys) (passes_none xs r)

-- a later ticket says more
pub passes_again : (numbers : List Numbers) (r l h : ℕ) → l ≤ h → changed (passes h) r (changed (passes l) r numbers) ≡ changed (passes h) r numbers
passes_again [] r l h le = refl
passes_again (x ∷ xs) zero l h le = ap (λ n. record x { head = n } ∷ xs) higher
  where
    higher : max (max x.head l) h ≡ max x.head h
    higher = omega arith
passes_again (x ∷ xs) (suc r) l h le = ap (λ ys. x ∷ ys) (passes_again xs r l h le)

-- a get may begin
pub may_get : (c : Setup) (v : Known) (word r : ℕ) → IsAlone v → my_phase v ≡ Idle → (my v).part.spent ≡ None → ring_of_word c word ≡ r → r < c.rings
    → MayTurn c v (load_turn c word v)
may_get c v word r alone idle none ring low =
    let able : turn_at c (my v).part.hand (my v).part.spent Idle (D1 r) ≡ Some (AtD1 r) = rw (none, lt-ltb r c.rings low) refl in
    subst (λ (t : Phase). MayTurn c v t) (sym (ap (loading (ring_of_word c word)) idle ∙ ap AtD1 ring))
    (record {
      member = my v;
      alone = alone.seats;
      out = alone.out;
      step = D1 r;
      enabled = subst (λ (p : Phase). turn_at c (my v).part.hand (my v).part.spent p (D1 r) ≡ Some (AtD1 r)) (sym idle) able;
    })

module _ {S : Type 0} (Lies : ℕ → S → List ℕ → Type 0) (c : Setup) (v : Known) (me later : Me S Known) (turn : Phase) (x r : ℕ) where
  pub saw_empty : turn ≡ AtD1 r → IsAlone me.0 → x < zero_level → Turned Lies c turn me x later → later.0 ≡ nothing_at r me.0
  saw_empty is alone low turned =
      goes_as Lies c turn (AtD1 r) me later x (ends (Nothing r) (my me.0).part) is alone (λ y. rw (lt-ltb x zero_level low) refl) turned
      ∙ ap (λ (ns : List Numbers). seated (with_part (ends (Nothing r) (my me.0).part) (my me.0)) ns me.0) (rw (lt-ltb x zero_level low) refl)

  pub saw_some : turn ≡ AtD1 r → IsAlone me.0 → zero_level ≤ x → Turned Lies c turn me x later → later.0 ≡ to_draw r 0 me.0
  saw_some is alone high turned =
      goes_as Lies c turn (AtD1 r) me later x (goes_on (AtD2 r 0) (my me.0).part) is alone (λ y. rw (le-ltb x zero_level high) refl) turned
      ∙ ap (λ (ns : List Numbers). seated (with_part (goes_on (AtD2 r 0) (my me.0).part) (my me.0)) ns me.0)
      (rw (le-ltb x zero_level high) (sym (passes_none me.0.numbers r)))

  pub drew_one : (l : ℕ) → turn ≡ AtD2 r l → IsAlone me.0 → me.0 ≡ to_draw r l v → x < c.limit → Turned Lies c turn me x later
      → later.0 ≡ goes_to (AtD3 r x 0) (drew_head r x v)
  drew_one l is alone here low turned =
      let u = turned_as is turned in
      let le = u.found in
      goes_as Lies c turn (AtD2 r l) me later x (goes_on (AtD3 r x 0) (my me.0).part) is alone (λ y. rw (lt-leb c.limit x low) refl) turned
      ∙ ap (λ (w : Known). seated (at_phase (AtD3 r x 0) (my w)) (changed (passes (x + 1)) r w.numbers) w) here
      ∙ ap (λ (ns : List Numbers). seated (at_phase (AtD3 r x 0) (my v)) ns v) (passes_again v.numbers r l (x + 1) (omega arith))

  pub drew_past_head : (l : ℕ) → turn ≡ AtD2 r l → IsAlone me.0 → me.0 ≡ to_draw r l v → c.limit ≤ x → Turned Lies c turn me x later
      → later.0 ≡ drawn_spent r x v
  drew_past_head l is alone here past turned =
      let u = turned_as is turned in
      let le = u.found in
      goes_as Lies c turn (AtD2 r l) me later x (spends r x false (my me.0).part) is alone (λ y. rw (le-leb c.limit x past) refl) turned
      ∙ ap (λ (w : Known). seated (with_part (spends r x false (my w).part) (my w)) (changed (passes (x + 1)) r w.numbers) w) here
      ∙ ap (λ (ns : List Numbers). seated (with_part (spends r x false (my v).part) (my v)) ns v) (passes_again v.numbers r l (x + 1) (omega arith))

  -- a ticket is not below what was known of Head
  pub drew_above_head : (l : ℕ) → turn ≡ AtD2 r l → me.0 ≡ to_draw r l v → Turned Lies c turn me x later → (known : Numbers)
      → slice_get v.numbers r ≡ Some known → known.head ≤ x
  drew_above_head l is here turned known e =
      let u = turned_as is turned in
      let more : slice_get me.0.numbers r ≡ Some (passes l known) = ap (λ (w : Known). slice_get w.numbers r) here ∙ changed_read v.numbers r known l e in
      let at_least : max known.head l ≤ x = u.draws (passes l known) more in
      omega arith
    where
      changed_read : (xs : List Numbers) (q : ℕ) (y : Numbers) (n : ℕ) → slice_get xs q ≡ Some y → slice_get (changed (passes n) q xs) q ≡ Some (passes n y)
      changed_read [] q y n there = absurd (cc)
      changed_read (z ∷ zs) zero y n there = let same : z ≡ y = cc in ap (λ (k : Numbers). Some (passes n k)) same
      changed_read (z ∷ zs) (suc q) y n there = changed_read zs q y n there

-- what was got with the last ticket, told of the seat before the call
pub got_then : {S : Type 0} (Lies : ℕ → S → List ℕ → Type 0) (c : Setup) (r h i : ℕ) (v : Known) (slots : List (ℕ × S)) (me later : Me S Known)
    → me.0 ≡ goes_to (AtD3 r h 0) (drew_head r h v) → me.1 ≡ slots → SeatHasGot Lies c r h i me later
    → SeatHasGot Lies c r h i (drew_head r h v, slots) later
got_then {S = S} Lies c r h i v slots me later went same got =
    record {
      content = got.content;
      view = got.view ∙ ap (got_at r h i got.content) went;
      slots = subst (λ (ss : List (ℕ × S)). Takes Lies i got.content ss later.1) same got.slots;
      low = got.low;
      fits = got.fits;
      once = got.once;
    }

-- what a draw from Head tells: where the ticket is below the limit, and where it is not
pub record DrewFromHead {S : Type 0} (c : Setup) (v : Known) (slots : List (ℕ × S)) (x r : ℕ) (later : Me S Known) : Type 0 where
  pub within : x < c.limit → later.0 ≡ goes_to (AtD3 r x 0) (drew_head r x v)
  pub past : c.limit ≤ x → later.0 ≡ drawn_spent r x v
  pub kept : later.1 ≡ slots
  pub above : (known : Numbers) → slice_get v.numbers r ≡ Some known → known.head ≤ x
  pub short : x + 1 < 2 ^ 64

pub drew_from_head : {S : Type 0} (Lies : ℕ → S → List ℕ → Type 0) (c : Setup) (v : Known) (slots : List (ℕ × S)) (me later : Me S Known) (turn : Phase)
    (x r l : ℕ) → turn ≡ AtD2 r l → IsAlone me.0 → me.0 ≡ to_draw r l v → me.1 ≡ slots → Turned Lies c turn me x later → DrewFromHead c v slots x r later
drew_from_head Lies c v slots me later turn x r l is alone here same turned =
    let u = turned_as is turned in
    record {
      within = λ low. drew_one Lies c v me later turn x r l is alone here low turned;
      past = λ past. drew_past_head Lies c v me later turn x r l is alone here past turned;
      kept = u.slots ∙ same;
      above = drew_above_head Lies c v me later turn x r l is here turned;
      short = u.ready;
    }
