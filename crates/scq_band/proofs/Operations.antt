-- What each operation of the table writes is what its turns write, and no turn but a put's exchange carries a slot.
use Rattle.std.proofs.Common.{◌≡◌, ℕ, ◌+◌, ◌-◌, ◌*◌, ◌%◌, ◌^◌, ◌<◌, ◌==◌, List, refl, ◌∙◌, ap, arith}
use Rattle.std.specs.Prelude.{bit_or, if◌then◌else◌}
use Rattle.std.proofs.Math.Nat.{mod-eq_of_lt, add-mul-mod_self_right}
use prog.Atomic.{either}
use Rattle.atomic_table.specs.Table.{State, Me, Allows}
use Rattle.scq_word.specs.declared.setup.Setup.{Setup}
use Rattle.scq_word.specs.Exports.{packed, mark_of}
use Rattle.scq_word.proofs.EntryLemmas.{bit_or-mark_of}
use Rattle.scq_core.specs.declared.phase.Phase.{Phase}
use Rattle.scq_core.specs.declared.phase.Phase.TheVariants.{AtE1, AtE2, AtE3, AtE4, AtE5, AtE6, AtD1, AtD2, AtD3, AtD4, AtD5, AtD6, AtD7, AtD8, AtD9, AtD10}
use Rattle.scq_core.specs.Exports.{Cells, read, ring_slots, cycle, reset_level, passed, location_of, writes, WordsFit}
use Rattle.scq_band.specs.declared.rule.Key.{Key}
use Rattle.scq_band.specs.Slots.{SlotStanding}
use Rattle.scq_band.specs.Exports.{LiesIn, opening_of, Sight, Went, known_me, Carries, Turned, my_phase, OnlyReads, IsDraw, Exchanges, IsReset}
use Rattle.scq_band.specs.Exports.{IsTakingTurn, IsCountDown}
use Rattle.scq_band.specs.Known.{Known}

-- what a step tells of the seat that made it, where its turn is this, or the seat's phase
abbrev pub Tells : {B : Type 0} → (B → List ℕ) → (B → B → Type 0) → Key B → Phase → Me (SlotStanding B) Sight → ℕ → Me (SlotStanding B) Sight → Type 0
Tells contents IsSame key t me x later =
    Turned (LiesIn contents IsSame key.given.value.items) key.setup t (known_me me) x (known_me later)
    × Went key.setup (opening_of contents key.given.value.items) me.0 later.0

abbrev pub TellsOfPhase : {B : Type 0} → (B → List ℕ) → (B → B → Type 0) → Key B → Me (SlotStanding B) Sight → Me (SlotStanding B) Sight → ℕ → Me (SlotStanding B) Sight → Type 0
TellsOfPhase contents IsSame key first me x later = Tells contents IsSame key (my_phase first.0.known) me x later

-- a turn that only reads writes what it found
pub load_says : (c : Setup) (t : Phase) (x : ℕ) → OnlyReads t → x ≡ writes c t x
load_says c (AtE2 r i w t l) x is = refl
load_says c (AtE3 r i w t e) x is = refl
load_says c (AtE5 r i w t) x is = refl
load_says c (AtD1 r) x is = refl
load_says c (AtD3 r h l) x is = refl
load_says c (AtD6 r h) x is = refl
load_says c (AtD8 r h from) x is = refl
load_says c (AtD9 r h from to) x is = refl
load_says c turn x is = absurd is

pub load_carries : {S : Type 0} (Lies : ℕ → S → List ℕ → Type 0) (t : Phase) (slots : List (ℕ × S)) → OnlyReads t → Carries Lies t slots
load_carries Lies (AtE4 r i w t e) slots is = absurd is
load_carries Lies turn slots is = tt

-- a draw adds one, which the word has room for
pub draw_says : (c : Setup) (m : Cells) (t : Phase) → WordsFit c m → IsDraw t → (read m (location_of c t) + 1) % 2 ^ 64 ≡ writes c t (read m (location_of c t))
draw_says c m (AtE1 r i w l) fit is = mod-eq_of_lt (fit.tail r)
draw_says c m (AtD2 r l) fit is = mod-eq_of_lt (fit.head r)
draw_says c m turn fit is = absurd is

pub draw_carries : {S : Type 0} (Lies : ℕ → S → List ℕ → Type 0) (t : Phase) (slots : List (ℕ × S)) → IsDraw t → Carries Lies t slots
draw_carries Lies (AtE4 r i w t e) slots is = absurd is
draw_carries Lies turn slots is = tt

-- an exchange writes the new word where it finds the old one
swapped : (x e z old new : ℕ) → old ≡ e → new ≡ z → either (x == old) new x ≡ (if x == e then z else x)
swapped x e z old new was is = rw (was, is) refl

pub exchange_says : (c : Setup) (t : Phase) (x old new : ℕ) → Exchanges c t old new → either (x == old) new x ≡ writes c t x
exchange_says c (AtE4 r i w t e) x old new is = swapped x e (packed (ring_slots c) (cycle c t) 1 i) old new is.0 is.1
exchange_says c (AtD5 r h e) x old new is = swapped x e (passed c h e) old new is.0 is.1
exchange_says c (AtD7 r h from to) x old new is = swapped x from to old new is.0 is.1
exchange_says c turn x old new is = absurd is

-- a reset tells nothing of what it found
pub reset_tells : {S : Type 0} (Lies : ℕ → S → List ℕ → Type 0) (c : Setup) (t : Phase) (me later : Me S Known) (x y : ℕ) → IsReset t
    → Turned Lies c t me x later → Turned Lies c t me y later
reset_tells Lies c (AtE6 r i w t) me later x y is told =
    record { beside = told.beside; view = told.view; slots = told.slots; found = tt; stands = tt; ready = tt; draws = tt; past_first = tt; fits = told.fits; once = told.once }
reset_tells Lies c turn me later x y is told = absurd is

pub reset_says : (c : Setup) (t : Phase) (x level : ℕ) → IsReset t → level ≡ reset_level c → level ≡ writes c t x
reset_says c (AtE6 r i w t) x level is as_said = as_said
reset_says c turn x level is as_said = absurd is

pub reset_carries : {S : Type 0} (Lies : ℕ → S → List ℕ → Type 0) (t : Phase) (slots : List (ℕ × S)) → IsReset t → Carries Lies t slots
reset_carries Lies (AtE4 r i w t e) slots is = absurd is
reset_carries Lies turn slots is = tt

-- an or with the mark takes the index out
pub consume_says : (c : Setup) (t : Phase) (x mark : ℕ) → IsTakingTurn t → mark ≡ mark_of (ring_slots c) → bit_or x mark ≡ writes c t x
consume_says c (AtD4 r h) x mark is as_said = rw as_said (bit_or-mark_of c.order x)
consume_says c turn x mark is as_said = absurd is

pub consume_carries : {S : Type 0} (Lies : ℕ → S → List ℕ → Type 0) (t : Phase) (slots : List (ℕ × S)) → IsTakingTurn t → Carries Lies t slots
consume_carries Lies (AtE4 r i w t e) slots is = absurd is
consume_carries Lies turn slots is = tt

-- a count takes one off a word that is not 0
pub less_one : (x : ℕ) → 0 < x → x < 2 ^ 64 → (x + (2 ^ 64 - 1)) % 2 ^ 64 ≡ x - 1
less_one x some small =
    let e : x + (2 ^ 64 - 1) ≡ (x - 1) + 1 * 2 ^ 64 = omega arith in
    ap (λ n. n % 2 ^ 64) e ∙ add-mul-mod_self_right (x - 1) 1 (2 ^ 64) ∙ mod-eq_of_lt (omega arith)

pub count_says : (c : Setup) (m : Cells) (t : Phase) → WordsFit c m → IsCountDown t
    → (read m (location_of c t) + (2 ^ 64 - 1)) % 2 ^ 64 ≡ writes c t (read m (location_of c t))
count_says c m (AtD10 r h leaving) fit is = less_one (m.threshold r) (fit.threshold r).0 (fit.threshold r).1
count_says c m turn fit is = absurd is

pub count_carries : {S : Type 0} (Lies : ℕ → S → List ℕ → Type 0) (t : Phase) (slots : List (ℕ × S)) → IsCountDown t → Carries Lies t slots
count_carries Lies (AtE4 r i w t e) slots is = absurd is
count_carries Lies turn slots is = tt

-- what is told of a step may be said in other words
pub allows_map : {S V : Type 0} (holds : State S V → Type 0) (slots id : ℕ) (me : Me S V) (i : ℕ) (f : ℕ → ℕ) (then1 then2 : ℕ → Me S V → Type 0)
    → ((n : ℕ) (later : Me S V) → then1 n later → then2 n later) → Allows holds slots id me i f then1 → Allows holds slots id me i f then2
allows_map holds slots id me i f then1 then2 map allows s sh many here small =
    let a = allows s sh many here small in (a.0, a.1, a.2, a.3, map _ _ a.4)
