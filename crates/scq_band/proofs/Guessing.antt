-- One operation of the table that makes two turns: it loads the entry, and exchanges it where it is as it was guessed. Plan: what a load
-- may do and what an exchange may then do, an exchange may do at once.
use Rattle.std.proofs.Common.{◌≡◌, ◌≢◌, ◌⊎◌, ℕ, zero, suc, ◌<◌, ◌==◌, List, [], ◌∷◌, length, refl, sym, ◌∙◌, ap, subst, inl, inr, arith, ne_eqb}
use Rattle.std.specs.Prelude.{slice_index, slice_set}
use Rattle.std.proofs.lemmas.Bool.{cases_eq}
use Rattle.std.proofs.lemmas.List.{length-set, set-set, set-get_or}
use mathlib.Core.Option.{some, some-ne-none}
use mathlib.Core.Option as maybe
use lib.ListN.{get_elem?}
use prog.Atomic.{either}
use Rattle.atomic_table.specs.Table.{State, Me, Act, Allows, stepped, homes_after, carried_after, keeps, takes, gives, chain, rest}
use Rattle.atomic_table.proofs.Lists.{set_here}
use Rattle.scq_word.specs.declared.setup.Setup.{Setup}
use Rattle.scq_core.specs.declared.phase.Phase.{Phase}
use Rattle.scq_core.specs.declared.phase.Phase.TheVariants.{AtE2, AtE4}
use Rattle.scq_core.specs.declared.step.Step.TheVariants.{E2, E4}
use Rattle.scq_core.specs.Exports.{location_of}
use Rattle.scq_band.specs.declared.rule.Key.{Key}
use Rattle.scq_band.specs.Slots.{SlotStanding}
use Rattle.scq_band.specs.Exports.{LiesIn, opening_of, GoesOn}
use Rattle.scq_band.specs.Exports.{at, Sight, Went, known_me, ShowsRun, Fronts, Turned, my_phase, IsAlone, goes_to}
use Rattle.scq_band.specs.Guesses.{Guesses, CarriesGuess, Guessed}
use Rattle.scq_band.proofs.Operations.{exchange_says, allows_map}
use Rattle.scq_band.proofs.Outcomes.{alone_at, may_go}
use Rattle.scq_band.proofs.PutOutcomes.{saw_vacant}
use Rattle.scq_band.proofs.Placing.{hit, hit_slots}
use Rattle.scq_band.proofs.RunShown.{moves, went_on}

-- what an exchange from a guess tells of the seat that made it
abbrev pub TellsOfGuess : {B : Type 0} → (B → List ℕ) → (B → B → Type 0) → Key B → ℕ → Me (SlotStanding B) Sight → Me (SlotStanding B) Sight → ℕ → Me (SlotStanding B) Sight → Type 0
TellsOfGuess contents IsSame key guess first me x later =
    Guessed (LiesIn contents IsSame key.given.value.items) key.setup (my_phase first.0.known) guess (known_me me) x (known_me later)
    × Went key.setup (opening_of contents key.given.value.items) me.0 later.0

-- an act leaves the number of slots
homes_long : {S : Type 0} (hs : List (maybe.Option S)) (cs : List (ℕ × S)) (a : Act S) → length (homes_after hs cs a) ≡ length hs
homes_long hs cs keeps = refl
homes_long hs cs (takes k y) = length-set hs k maybe.none
homes_long hs [] gives = refl
homes_long hs (x ∷ xs) gives = length-set hs x.0 (some x.1)
homes_long hs cs (chain a b) = homes_long (homes_after hs cs a) (carried_after cs a) b ∙ homes_long hs cs a

there_low : {A : Type 0} (l : List A) (i : ℕ) (a : A) → get_elem? l i ≡ some a → i < length l
there_low [] i a e = absurd (some-ne-none a (sym e))
there_low (y ∷ ys) zero a e = omega arith
there_low (y ∷ ys) (suc i) a e = let low = there_low ys i a e in omega arith

module _ {S V : Type 0} where
  -- what two operations tell of which the second was made where the first found `old`
  abbrev pub Both : ℕ → (ℕ → Me S V → Type 0) → (Me S V → ℕ → Me S V → Type 0) → ℕ → Me S V → Type 0
  Both old then1 then2 n later = ((n ≡ old) × ((mid : Me S V) × then1 old mid × then2 mid old later)) ⊎ ((n ≢ old) × then1 n later)

  -- a load, and an exchange of what it found where that is `old`, are one exchange from `old`
  pub at_once : (holds : State S V → Type 0) (slots id : ℕ) (me : Me S V) (i old new : ℕ) (then1 : ℕ → Me S V → Type 0)
      (then2 : Me S V → ℕ → Me S V → Type 0)
      → Allows holds slots id me i (λ n. n) then1
      → ((mid : Me S V) → then1 old mid → Allows holds slots id mid i (λ n. either (n == old) new n) (then2 mid))
      → Allows holds slots id me i (λ n. either (n == old) new n) (Both old then1 then2)
  at_once holds slots id me i old new then1 then2 loads exchanges s sh many here small =
      let n = slice_index s.words i in
      let a = loads s sh many here small in
      elim (cases_eq n old) [
        | inl same ↦
            let mid : Me S V = (a.0, carried_after me.1 a.1) in
            let read_only : slice_set s.words i n ≡ s.words = set-get_or s.words i 0 in
            let s1 : State S V = record { words = s.words; homes = homes_after s.homes me.1 a.1; views = slice_set s.views id a.0 } in
            let sh1 : holds s1 =
            subst (λ (ws : List ℕ). holds (record { words = ws; homes = homes_after s.homes me.1 a.1; views = slice_set s.views id a.0 })) read_only a.3 in
            let told : then1 old mid = subst (λ (k : ℕ). then1 k mid) same a.4 in
            let b = exchanges mid told s1 sh1 (homes_long s.homes me.1 a.1 ∙ many) (set_here s.views id a.0 (there_low s.views id me.0 here)) small in
            let shown : holds (stepped s i (either (n == old) new n) id me.1 b.0 (chain a.1 b.1)) =
            subst (λ (vs : List V). holds (record {
              words = slice_set s.words i (either (n == old) new n);
              homes = homes_after (homes_after s.homes me.1 a.1) (carried_after me.1 a.1) b.1;
              views = vs;
            })) (set-set s.views id a.0 b.0) b.3 in
            (b.0, chain a.1 b.1, (a.2, b.2), shown, inl (same, (mid, told, subst (λ (k : ℕ). then2 mid k (b.0, carried_after (carried_after me.1 a.1) b.1)) same b.4)))
        | inr other ↦
            let stays : n ≡ either (n == old) new n = sym (rw (ne_eqb n old other) refl) in
            (a.0, a.1, a.2, subst (λ (k : ℕ). holds (stepped s i k id me.1 a.0 a.1)) stays a.3, inr (other, a.4))
      ]

module _ {S : Type 0} (Lies : ℕ → S → List ℕ → Type 0) (opening : List (List ℕ)) (c : Setup) where
  -- what each turn tells
  abbrev Told : Phase → Me S Sight → ℕ → Me S Sight → Type 0
  Told t me x later = Turned Lies c t (known_me me) x (known_me later) × Went c opening me.0 later.0

  -- what both tell together
  both_told : (me : Me S Sight) (r i : ℕ) (w : List ℕ) (t l old new x : ℕ) (later : Me S Sight) → IsAlone me.0.known
      → Guesses c (AtE2 r i w t l) old new
      → Both old (Told (AtE2 r i w t l) me) (Told (AtE4 r i w t old)) x later
      → Guessed Lies c (AtE2 r i w t l) old (known_me me) x (known_me later) × Went c opening me.0 later.0
  both_told me r i w t l old new x later alone guess (inl (same, (mid, first, second))) =
      let v = me.0.known in
      let room : mid.0.known ≡ goes_to (AtE4 r i w t old) v =
      saw_vacant Lies c (known_me me) (known_me mid) (AtE2 r i w t l) old r i w t l refl alone guess.0 first.0 in (
        record {
          hit = λ e. (
            hit Lies c (known_me mid) (known_me later) (AtE4 r i w t old) old r i w t old v refl (alone_at v mid.0.known _ alone room) room refl second.0,
            hit_slots Lies c (known_me mid) (known_me later) (AtE4 r i w t old) old r i w t old refl refl second.0 ∙ ap rest first.0.slots,
          );
          missed = λ miss. absurd (miss same);
        },
        went_on first.1 second.1,
      )
  both_told me r i w t l old new x later alone guess (inr (miss, told)) = (
    record { hit = λ same. absurd (miss same); missed = λ e. told.0 },
    told.1,
  )

  -- a put may exchange its ticket's entry from a guess, whatever the table is then
  pub guesses : (slots id : ℕ) (me : Me S Sight) (p : Phase) (i old new : ℕ) → my_phase me.0.known ≡ p → IsAlone me.0.known → Guesses c p old new
      → CarriesGuess Lies p me.1
      → i ≡ at c (location_of c p)
      → Allows (ShowsRun Lies opening c) slots id me i (λ n. either (n == old) new n)
      (λ x later. Guessed Lies c p old (known_me me) x (known_me later) × Went c opening me.0 later.0)
  guesses slots id me (AtE2 r j w t l) i old new phase alone guess carries word =
      let v = me.0.known in
      allows_map (ShowsRun Lies opening c) slots id me i (λ n. either (n == old) new n)
      (Both old (Told (AtE2 r j w t l) me) (Told (AtE4 r j w t old)))
      (λ x later. Guessed Lies c (AtE2 r j w t l) old (known_me me) x (known_me later) × Went c opening me.0 later.0)
      (λ x later told. both_told me r j w t l old new x later alone guess told)
      (at_once (ShowsRun Lies opening c) slots id me i old new (Told (AtE2 r j w t l) me) (Told (AtE4 r j w t old))
      (moves Lies c slots id me (AtE2 r j w t l) i (λ n. n) (may_go c v (AtE2 r j w t l) E2 alone phase refl) tt word (λ m reach busy. refl))
      (λ mid told.
      let room : mid.0.known ≡ goes_to (AtE4 r j w t old) v =
      saw_vacant Lies c (known_me me) (known_me mid) (AtE2 r j w t l) old r j w t l refl alone guess.0 told.0 in
      moves Lies c slots id mid (AtE4 r j w t old) i (λ n. either (n == old) new n)
      (may_go c mid.0.known (AtE4 r j w t old) E4 (alone_at v mid.0.known _ alone room) (ap my_phase room) refl)
      (subst (λ (ss : List (ℕ × S)). Fronts Lies j w ss) (sym told.0.slots) carries) word
      (λ m reach busy. exchange_says c (AtE4 r j w t old) _ old new (refl, guess.1))))
  guesses slots id me p i old new phase alone guess carries word = absurd guess

-- steps, and then more steps or none
pub went_more : {c : Setup} {opening : List (List ℕ)} {a b d : Sight} → Went c opening a b → GoesOn c opening b d → Went c opening a d
went_more {c} {opening} {a} {b} {d} went (inl same) = subst (λ (v : Sight). Went c opening a v) (sym same) went
went_more went (inr more) = went_on went more
