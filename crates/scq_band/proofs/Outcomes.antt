-- What a turn makes of the view of a seat that stands alone.
use Rattle.std.proofs.Common.{◌≡◌, ℕ, List, [], ◌∷◌, map, refl, sym, ◌∙◌, ap, subst, Some, ◌≢◌, ◌⊎◌, inl, inr}
use Rattle.atomic_table.specs.Table.{Me}
use Rattle.scq_word.specs.declared.setup.Setup.{Setup}
use Rattle.scq_core.specs.declared.phase.Phase.{Phase}
use Rattle.scq_core.specs.Exports.{SeatPart, after, turn_at, location_of}
use Rattle.scq_core.specs.declared.step.Step.{Step}
use Rattle.scq_band.specs.Exports.{at, ring_of_word, Member, my, my_phase, loading, load_turn, OnlyReads, MayTurn, Turned, made, learned}
use Rattle.scq_band.specs.Exports.{turned_member, IsAlone, with_part, at_phase, goes_to, seated}
use Rattle.scq_band.specs.declared.numbers.Numbers.{Numbers}
use Rattle.scq_band.specs.Known.{Known}

-- the view of a seat that stands alone after a turn
pub made_alone : (c : Setup) (t : Phase) (x : ℕ) (y : List ℕ) (v : Known) → v.seats ≡ my v ∷ []
    → made c t x y v ≡ seated (turned_member c t x y (my v)) (learned c t x v.numbers) v
made_alone c t x y v alone = ap (λ (xs : List Member). record v { seats = map (turned_member c t x y) xs; numbers = learned c t x v.numbers }) alone

-- the seat's part becomes what the table says, and its numbers what the turn tells
pub goes : {S : Type 0} (Lies : ℕ → S → List ℕ → Type 0) (c : Setup) (t : Phase) (me later : Me S Known) (x : ℕ) (q : SeatPart) → IsAlone me.0
    → ((y : List ℕ) → after c t x y (my me.0).part ≡ q)
    → Turned Lies c t me x later → later.0 ≡ seated (with_part q (my me.0)) (learned c t x me.0.numbers) me.0
goes Lies c t me later x q alone is turned =
    turned.view ∙ made_alone c t x turned.beside me.0 alone.seats
    ∙ ap (λ (p : SeatPart). seated (with_part p (my me.0)) (learned c t x me.0.numbers) me.0) (is turned.beside)

-- the same, of a turn that is known by an equation
pub goes_as : {S : Type 0} (Lies : ℕ → S → List ℕ → Type 0) (c : Setup) (t u : Phase) (me later : Me S Known) (x : ℕ) (q : SeatPart) → t ≡ u → IsAlone me.0
    → ((y : List ℕ) → after c u x y (my me.0).part ≡ q)
    → Turned Lies c t me x later → later.0 ≡ seated (with_part q (my me.0)) (learned c u x me.0.numbers) me.0
goes_as Lies c t u me later x q same alone is turned =
    goes Lies c u me later x q alone is (subst (λ (z : Phase). Turned Lies c z me x later) same turned)

-- what a turn that is known by an equation tells besides
pub turned_as : {S : Type 0} {Lies : ℕ → S → List ℕ → Type 0} {c : Setup} {t u : Phase} {me later : Me S Known} {x : ℕ} → t ≡ u → Turned Lies c t me x later
    → Turned Lies c u me x later
turned_as {Lies = Lies} {c = c} {me = me} {later = later} {x = x} same turned = subst (λ (z : Phase). Turned Lies c z me x later) same turned

-- a word that is not the one that was known is higher
pub higher : {x e : ℕ} {Above : Type 0} → x ≢ e → (x ≡ e) ⊎ Above → Above
higher miss (inl same) = absurd (miss same)
higher miss (inr up) = up

-- a seat that stands alone may make the turn of its phase
pub may_go : (c : Setup) (v : Known) (t : Phase) (s : Step) → IsAlone v → my_phase v ≡ t → turn_at c (my v).part.hand (my v).part.spent t s ≡ Some t
    → MayTurn c v t
may_go c v t s alone phase able =
    record {
      member = my v;
      alone = alone.seats;
      out = alone.out;
      step = s;
      enabled = subst (λ (p : Phase). turn_at c (my v).part.hand (my v).part.spent p s ≡ Some t) (sym phase) able;
    }

-- and by a load, where its phase is a turn that only reads
pub may_load : (c : Setup) (v : Known) (word : ℕ) (t : Phase) (s : Step) → IsAlone v → my_phase v ≡ t → loading (ring_of_word c word) t ≡ t
    → turn_at c (my v).part.hand (my v).part.spent t s ≡ Some t → MayTurn c v (load_turn c word v)
may_load c v word t s alone phase reads able =
    subst (λ (u : Phase). MayTurn c v u) (sym (ap (loading (ring_of_word c word)) phase ∙ reads)) (may_go c v t s alone phase able)

-- that load only reads, at the word of that turn
pub load_kind : (c : Setup) (v : Known) (word : ℕ) (t : Phase) → my_phase v ≡ t → loading (ring_of_word c word) t ≡ t → OnlyReads t → OnlyReads (load_turn c word v)
load_kind c v word t phase reads only = subst OnlyReads (sym (ap (loading (ring_of_word c word)) phase ∙ reads)) only

pub load_word : (c : Setup) (v : Known) (word : ℕ) (t : Phase) → my_phase v ≡ t → loading (ring_of_word c word) t ≡ t → word ≡ at c (location_of c t)
    → word ≡ at c (location_of c (load_turn c word v))
load_word c v word t phase reads is = is ∙ ap (λ (u : Phase). at c (location_of c u)) (sym (ap (loading (ring_of_word c word)) phase ∙ reads))

-- and the word of a seat's phase is that of the turn
pub phase_word : (c : Setup) (v : Known) (word : ℕ) (t : Phase) → my_phase v ≡ t → word ≡ at c (location_of c t) → word ≡ at c (location_of c (my_phase v))
phase_word c v word t phase is = is ∙ ap (λ (u : Phase). at c (location_of c u)) (sym phase)

-- it stands alone still
pub alone_seated : (v later : Known) (x : Member) (numbers : List Numbers) → x.brought ≡ [] → later ≡ seated x numbers v → IsAlone later
alone_seated v later x numbers out is = subst IsAlone (sym is) (record { seats = refl; out = out })

-- a seat that went on from another view stands alone, is where it went, and may go on
pub alone_at : (v later : Known) (t : Phase) → IsAlone v → later ≡ goes_to t v → IsAlone later
alone_at v later t alone is = alone_seated v later (at_phase t (my v)) v.numbers alone.out is

pub may_phase : (c : Setup) (v : Known) (t : Phase) (s : Step) → IsAlone v → my_phase v ≡ t → turn_at c (my v).part.hand (my v).part.spent t s ≡ Some t
    → MayTurn c v (my_phase v)
may_phase c v t s alone phase able = subst (λ (u : Phase). MayTurn c v u) (sym phase) (may_go c v t s alone phase able)
