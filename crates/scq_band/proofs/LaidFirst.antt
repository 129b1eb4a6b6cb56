-- A seat whose slot of an index stands first, with the buffer laid in it: what an enqueue of the index asks of it, and what it leaves.
use Rattle.std.proofs.Common.{◌≡◌, ℕ, ◌^◌, ◌<◌, Bool, true, false, List, ◌∷◌, length, refl, sym, ◌∙◌, ap, subst, arith}
use Rattle.std.specs.Prelude.{Some, None, Option, slice_get, slice_set}
use Rattle.atomic_table.specs.Seated.{TableId}
use Rattle.atomic_table.specs.Table.{Me, rest}
use Rattle.scq_word.specs.declared.setup.Setup.{Setup}
use Rattle.scq_word.specs.Exports.{n_of}
use Rattle.scq_core.specs.declared.phase.Phase.TheVariants.{Idle}
use Rattle.scq_core.specs.Exports.{holds_index}
use Rattle.scq_law.specs.Exports.{times}
use Rattle.scq_band.specs.declared.numbers.Numbers.{Numbers}
use Rattle.scq_band.specs.Slots.{SlotStanding}
use Rattle.scq_band.specs.declared.rule.Key.{Key}
use Rattle.scq_band.specs.Exports.{LiesIn, opening_of, known_of, changed, finishes, IsCallInRun, Sight, Went, known_in, known_me, my, front_index}
use Rattle.scq_band.specs.Exports.{front_bytes, put_at, spent_at, HasPut, HasSpentPut, Fronts, Identity, in_hand, bytes_in_hand, with_buffer}
use Rattle.scq_band.specs.Exports.{having_seen, caller_of, seat_after_put, seat_after_spent_put, IsAsGiven, indices_of, identity_of, standing_from}
use Rattle.scq_band.specs.Exports.{standing_of, IsKept, IsRotation}
use Rattle.scq_band.specs.Known.{Known}
use Rattle.scq_band.specs.Standing.{Standing}
use Rattle.scq_band.proofs.Slots.{holds_times, noted_low}
use Rattle.scq_band.proofs.Exchanging.{kept_low, held, brought, Brought, kept_turned, kept_lent, lent_standing}
use Rattle.scq_band.proofs.Keeping.{kept_put, kept_still, put_standing, spent_standing, turned_hand, seen, call_seen, known_there}
use Rattle.scq_band.proofs.Putting.{laid_there, laid_brought, lifted_again}

module _ {B : Type 0} where
  -- the ring of a call is one of those that the seat knows of
  pub ring_there : {table : TableId} {s : Standing B} {self : Identity B} {r : ℕ} (key : Key B) (me : Me (SlotStanding B) Sight) (numbers : List Numbers)
      → standing_of table key me ≡ s → s.band ≡ self → length numbers ≡ key.setup.rings → r < self.setup.rings → r < length numbers
  ring_there {self = self} key me numbers is own many low =
      let same : key.setup.rings ≡ self.setup.rings = ap (λ (t : Standing B). t.band.setup.rings) is ∙ ap (λ (b : Identity B). b.setup.rings) own in
      omega (arith, many, low, same)

  -- the seat's band is the one that the call is made of
  pub one_band : {table shared_table : TableId} {s : Standing B} {self : Identity B} (key shared : Key B) (me : Me (SlotStanding B) Sight) → standing_of table key me ≡ s
      → s.band ≡ self → identity_of shared_table shared ≡ self → identity_of table key ≡ identity_of shared_table shared
  one_band key shared me is own shared_is = ap (λ (t : Standing B). t.band) is ∙ own ∙ sym shared_is

-- what is said of all that is known of a ring is said of the numbers that a seat keeps
pub known_so : (P : Numbers → Type 0) (ns numbers : List Numbers) (r n : ℕ) → ns ≡ numbers → n ≡ r → r < length ns
    → ((known : Numbers) → slice_get numbers n ≡ Some known → P known) → P (known_of ns r)
known_so P ns numbers r n same is low all =
    all (known_of ns r) (ap (slice_get numbers) is ∙ ap (λ (l : List Numbers). slice_get l r) (sym same) ∙ known_there ns r low)

module _ {B : Type 0} (IsSame : B → B → Type 0) where
  -- the slot of an index that is in the hand, once it was turned to the front
  pub came_first : {key : Key B} {table : TableId} {notes : List Bool} {numbers : List Numbers} {spent : Option ℕ} {i : ℕ} {o : Option B}
      {s : Standing B} (me : Me (SlotStanding B) Sight) (ms : List (ℕ × SlotStanding B)) → IsKept IsSame key (known_me me) notes numbers spent
      → standing_of table key me ≡ s → IsRotation me.1 ms → front_index ms ≡ i → in_hand s.hand i ≡ Some o
      → Brought IsSame (known_me me) key.given.value.items ms i o
  came_first {key} {table} {notes} {numbers} {spent} {i} {o} {s} me ms kept is turned first has =
      brought IsSame key (known_me me) ms notes numbers spent i o kept turned first (ap (λ (t : Standing B). in_hand t.hand i) is ∙ has)

  -- and before
  pub held_there : {key : Key B} {table : TableId} {notes : List Bool} {numbers : List Numbers} {spent : Option ℕ} {o : Option B}
      {s : Standing B} (i : ℕ) (me : Me (SlotStanding B) Sight) → IsKept IsSame key (known_me me) notes numbers spent → standing_of table key me ≡ s
      → in_hand s.hand i ≡ Some o → 0 < times i (indices_of me.1)
  held_there {key} {table} {notes} {numbers} {spent} {o} {s} i me kept is has =
      held IsSame key (known_me me) notes numbers spent i o kept (ap (λ (t : Standing B). in_hand t.hand i) is ∙ has)

  -- a seat that keeps no ticket has none for its callers
  pub keeps_none : {key : Key B} {table : TableId} {notes : List Bool} {numbers : List Numbers} {spent : Option ℕ} {s : Standing B} {t : ℕ}
      (me : Me (SlotStanding B) Sight) → IsKept IsSame key (known_me me) notes numbers spent → standing_of table key me ≡ s → spent ≡ None → s.spent ≡ Some t
      → {A : Type 0} → A
  keeps_none {t = t} me kept is none has =
      let never : ◌≡◌ {A = Option ℕ} None (Some t) = sym none ∙ kept.spent ∙ ap (λ (u : Standing B). u.spent) is ∙ has in
      absurd (cc)

  -- it is the slot of the index, with what the hand has of it
  pub front_slot : {me : Me (SlotStanding B) Known} {given : List B} {ms : List (ℕ × SlotStanding B)} {i : ℕ} {o : Option B} → Brought IsSame me given ms i o
      → (slot : SlotStanding B) × (ms ≡ (i, slot) ∷ rest ms) × (slot.buffer ≡ o)
  front_slot {i = i} b = (b.slot, b.is ∙ ap (λ (os : List (ℕ × SlotStanding B)). (i, b.slot) ∷ os) (sym (ap rest b.is)), b.has)

  pub record LaidFirst (key : Key B) (table : TableId) (me : Me (SlotStanding B) Sight) (notes : List Bool) (numbers : List Numbers) (spent : Option ℕ)
      (i : ℕ) (buffer : B) (s : Standing B) : Type 0 where
    pub kept : IsKept IsSame key (known_me me) notes numbers spent
    pub front : Brought IsSame (known_me me) key.given.value.items me.1 i (Some buffer)
    pub stands : standing_of table key me ≡ s
    pub there : in_hand s.hand i ≡ Some (Some buffer)

  -- it is so once the slot was turned to the front
  pub turned_first : {key : Key B} {table later : TableId} {notes : List Bool} {numbers : List Numbers} {spent : Option ℕ} {i : ℕ}
      {buffer : B} {s : Standing B} (me me' : Me (SlotStanding B) Sight) → IsKept IsSame key (known_me me) notes numbers spent → standing_of table key me ≡ s
      → later ≡ table → me'.0 ≡ me.0 → IsRotation me.1 me'.1 → front_index me'.1 ≡ i
      → in_hand s.hand i ≡ Some (Some buffer) → LaidFirst key later me' notes numbers spent i buffer s
  turned_first {key} {table} {later} {notes} {numbers} {spent} {i} {buffer} {s} me me' kept is same view turned first has =
      let b = came_first me me'.1 kept is turned first has in
      record {
        kept = kept_turned IsSame key (known_me me) me'.0.known me'.1 notes numbers spent kept (ap known_in view) turned;
        front = record { slot = b.slot; others = b.others; is = b.is; has = b.has; same = λ j. refl; given_so = b.given_so };
        stands =
            ap (λ t. standing_of t key me') same ∙ ap (λ (v : Sight). standing_from v.seen table key (v.known, me'.1)) view
            ∙ ap (λ (h : List (ℕ × Option B)). record (standing_of table key me) { hand = h }) (turned_hand me.1 me'.1 b.same (my me.0.known).part.hand) ∙ is;
        there = has;
      }

  -- what the seat keeps, and is, once the buffer in that slot was exchanged
  pub lent_first : {key : Key B} {table mid later : TableId} {notes : List Bool} {numbers : List Numbers} {spent : Option ℕ} {i : ℕ}
      {o : Option B} {s : Standing B} (me one me' : Me (SlotStanding B) Sight) (y : SlotStanding B) → IsKept IsSame key (known_me me) notes numbers spent
      → standing_of table key me ≡ s → mid ≡ table → later ≡ mid → one.0 ≡ me.0 → IsRotation me.1 one.1 → front_index one.1 ≡ i
      → in_hand s.hand i ≡ Some o → ((b : B) → y.buffer ≡ Some b → IsAsGiven IsSame s.band.given i b) → me' ≡ (one.0, (i, y) ∷ rest one.1)
      → IsKept IsSame key (known_me me') notes numbers spent
      × (standing_of later key me' ≡ record s { hand = with_buffer i y.buffer s.hand })
  lent_first {key} {table} {mid} {later} {notes} {numbers} {spent} {i} {o} {s} me one me' y kept is same again view turned first has given laid =
      let b = came_first me one.1 kept is turned first has in
      let known : known_me me' ≡ (one.0.known, (i, y) ∷ rest one.1) = ap known_me laid in
      let its : key.given.value.items ≡ s.band.given = ap (λ (t : Standing B). t.band.given) is in
      let as_given : (x : B) → y.buffer ≡ Some x → IsAsGiven IsSame key.given.value.items i x =
      λ x its_is. subst (λ (bs : List B). IsAsGiven IsSame bs i x) (sym its) (given x its_is) in (
        kept_lent IsSame key (known_me me) (known_me me') one.0.known one.1 notes numbers spent i o y kept (ap known_in view) turned b as_given known,
        lent_standing IsSame me.0.seen me'.0.seen table later key (known_me me) (known_me me') one.0.known one.1 key.given.value.items i o y s is
            (ap (λ (m : Me (SlotStanding B) Sight). m.0.seen) laid ∙ ap (λ (v : Sight). v.seen) view) (again ∙ same) (ap known_in view) b known,
      )

  -- it is so too once a buffer was laid in the slot, which had none
  pub laid_first : {key : Key B} {table mid later : TableId} {notes : List Bool} {numbers : List Numbers} {spent : Option ℕ} {i : ℕ}
      {buffer : B} {s : Standing B} (me one me' : Me (SlotStanding B) Sight) → IsKept IsSame key (known_me me) notes numbers spent → standing_of table key me ≡ s
      → mid ≡ table → later ≡ mid → one.0 ≡ me.0 → IsRotation me.1 one.1 → front_index one.1 ≡ i
      → in_hand s.hand i ≡ Some None → IsAsGiven IsSame s.band.given i buffer → me' ≡ (one.0, (i, record { buffer = Some buffer }) ∷ rest one.1)
      → LaidFirst key later me' notes numbers spent i buffer (record s { hand = with_buffer i (Some buffer) s.hand })
  laid_first {key} {table} {mid} {later} {notes} {numbers} {spent} {i} {buffer} {s} me one me' kept is same again view turned first has given laid =
      let y : SlotStanding B = record { buffer = Some buffer } in
      let lent = lent_first me one me' y kept is same again view turned first has
      (λ x its. let it : buffer ≡ x = cc in subst (λ (z : B). IsAsGiven IsSame s.band.given i z) it given) laid in
      let its : key.given.value.items ≡ s.band.given = ap (λ (t : Standing B). t.band.given) is in
      record {
        kept = lent.0;
        front =
            laid_brought IsSame key.given.value.items (known_me me') (rest one.1) i buffer (ap (λ (m : Me (SlotStanding B) Sight). m.1) laid)
            (subst (λ (bs : List B). IsAsGiven IsSame bs i buffer) (sym its) given);
        stands = lent.1;
        there = laid_there s.hand i None (Some buffer) has;
      }

  -- what the seat keeps, and is, where a put drew a ticket at or past the limit and the slots were turned
  pub refused_first : {key : Key B} {table later : TableId} {notes : List Bool} {numbers : List Numbers} {spent : Option ℕ} {i : ℕ}
      {o : Option B} {s : Standing B} (me one me' : Me (SlotStanding B) Sight) (r t : ℕ) → IsKept IsSame key (known_me me) notes numbers spent
      → standing_of table key me ≡ s → later ≡ table → one.0 ≡ me.0 → IsRotation me.1 one.1 → front_index one.1 ≡ i
      → in_hand s.hand i ≡ Some o → me'.0.known ≡ spent_at r t true one.0.known → me'.1 ≡ one.1
      → IsKept IsSame key (known_me me') notes numbers (Some t)
      × (standing_of later key me' ≡ having_seen me'.0.seen (seat_after_spent_put r t s))
  refused_first {key} {table} {later} {notes} {numbers} {spent} {i} {o} {s} me one me' r t kept is same view turned first has drew slots =
      let b = came_first me one.1 kept is turned first has in
      let u = spent_at r t true one.0.known in
      let so = kept_turned IsSame key (known_me me) one.0.known one.1 notes numbers spent kept (ap known_in view) turned in (
        kept_still IsSame key (known_me me') one.0.known u one.1 notes numbers numbers spent (Some t) so
            (record { seats = refl; out = so.alone.out }) refl refl so.numbers refl so.small refl
            (ap (λ (k : Known). (k, me'.1)) drew ∙ ap (λ (l : List (ℕ × SlotStanding B)). (u, l)) slots),
        spent_standing me.0.seen me'.0.seen table later key (known_me me) (known_me me') one.0.known one.1 s r t is same (ap known_in view) b.same drew slots,
      )

  -- the same, where a buffer had been laid and was lifted again
  pub refused_laid : {key : Key B} {table last : TableId} {notes : List Bool} {numbers : List Numbers} {spent : Option ℕ}
      {i : ℕ} {buffer : B} {s : Standing B} (me one laid drawn me' : Me (SlotStanding B) Sight) (c : Setup) (r t : ℕ)
      → IsKept IsSame key (known_me me) notes numbers spent → standing_of table key me ≡ s → last ≡ table → one.0 ≡ me.0 → IsRotation me.1 one.1
      → front_index one.1 ≡ i → in_hand s.hand i ≡ Some None
      → laid ≡ (one.0, (i, record { buffer = Some buffer }) ∷ rest one.1) → HasSpentPut c r t (known_me laid) (known_me drawn)
      → me' ≡ (drawn.0, (i, record { buffer = None }) ∷ rest drawn.1)
      → IsKept IsSame key (known_me me') notes numbers (Some t)
      × (standing_of last key me' ≡ having_seen me'.0.seen (seat_after_spent_put r t s))
  refused_laid {key} {i = i} {buffer = buffer} me one laid drawn me' c r t kept is same view turned first has as_laid refused lifted =
      let b = came_first me one.1 kept is turned first has in
      let front = ap (λ (m : Me (SlotStanding B) Sight). m.1) as_laid in
      let again = ap (λ (os : List (ℕ × SlotStanding B)). (i, record { buffer = None }) ∷ os) (ap rest (refused.slots ∙ front))
      ∙ lifted_again IsSame (known_me me) key.given.value.items one.1 i b in
      refused_first me one me' r t kept is same view turned first has
      (ap (λ (m : Me (SlotStanding B) Sight). m.0.known) lifted ∙ refused.view ∙ ap (λ (m : Me (SlotStanding B) Sight). spent_at r t true m.0.known) as_laid)
      (ap (λ (m : Me (SlotStanding B) Sight). m.1) lifted ∙ again)

module _ {B : Type 0} {IsSame : B → B → Type 0} {key : Key B} {table : TableId} {me : Me (SlotStanding B) Sight} {notes : List Bool}
    {numbers : List Numbers} {spent : Option ℕ} {i : ℕ} {buffer : B} {s : Standing B}
    (laid : LaidFirst IsSame key table me notes numbers spent i buffer s) where
  -- the seat is idle, and has the index
  pub laid_idle : spent ≡ None → ((my me.0.known).part.phase ≡ Idle) × ((my me.0.known).part.spent ≡ None)
  laid_idle none = (laid.kept.idle, sym laid.kept.spent ∙ none)

  pub laid_held : {shared_table : TableId} {self : Identity B} (shared : Key B) → s.band ≡ self → identity_of shared_table shared ≡ self
      → (holds_index (my me.0.known).part.hand i ≡ true) × (i < n_of shared.setup.order)
  laid_held shared own shared_is =
      let there = held_there IsSame i me laid.kept laid.stands laid.there in
      let in_it : 0 < times i (my me.0.known).part.hand = let same = laid.kept.same i in omega (arith, same, there) in
      let band = one_band key shared me laid.stands own shared_is in
      (holds_times i (my me.0.known).part.hand in_it, subst (λ (b : Identity B). i < n_of b.setup.order) band (kept_low IsSame key (known_me me) notes numbers spent laid.kept i there))

  -- of which it is noted
  pub laid_noted : i < length notes
  laid_noted =
      let there = held_there IsSame i me laid.kept laid.stands laid.there in
      let is = laid.kept.slots i in
      noted_low notes i (omega (arith, there, is))

module _ {B : Type 0} (contents : B → List ℕ) {IsSame : B → B → Type 0} {key : Key B} {table : TableId} {me : Me (SlotStanding B) Sight} {notes : List Bool}
    {numbers : List Numbers} {spent : Option ℕ} {i : ℕ} {buffer : B} {s : Standing B}
    (laid : LaidFirst IsSame key table me notes numbers spent i buffer s) where
  -- the slot in front has its buffer
  pub laid_fronts : {shared_table : TableId} {self : Identity B} (shared : Key B) → s.band ≡ self → identity_of shared_table shared ≡ self
      → Fronts (LiesIn contents IsSame shared.given.value.items) i (front_bytes contents me.1) me.1
  laid_fronts shared own shared_is =
      seen contents IsSame (known_me me) me.1 key.given.value.items shared.given.value.items i buffer laid.front
      (ap (λ (b : Identity B). b.given) (one_band key shared me laid.stands own shared_is))

  -- the place is above what the seat knew of Tail
  pub laid_above : {c : Setup} {n r p : ℕ} (me' : Me (SlotStanding B) Sight) → HasPut contents c n i p (known_me me) (known_me me') → n ≡ r → r < length numbers
      → (known_of numbers r).seen < p
  laid_above {c} {n} {r} {p} me' put is low =
      known_so (λ x. x.seen < p) numbers me.0.known.numbers r n laid.kept.numbers is low put.above

  pub laid_place : {shared_table : TableId} {self : Identity B} {n r p : ℕ} (shared : Key B) (me' : Me (SlotStanding B) Sight)
      → HasPut contents shared.setup n i p (known_me me) (known_me me') → n ≡ r → r < length numbers → identity_of shared_table shared ≡ self
      → (p < self.setup.limit) × ((known_of s.numbers r).seen < p)
  laid_place {r = r} {p = p} shared me' put is low shared_is = (
    subst (λ (b : Identity B). p < b.setup.limit) shared_is put.low,
    subst (λ (ns : List Numbers). (known_of ns r).seen < p) (laid.kept.numbers ∙ ap (λ (t : Standing B). t.numbers) laid.stands)
        (laid_above {c = shared.setup} me' put is low),
  )

  -- what the seat keeps, and is, once the index was put
  pub laid_kept : {c : Setup} {n r p : ℕ} {notes' : List Bool} {numbers' : List Numbers} (me' : Me (SlotStanding B) Sight)
      → HasPut contents c n i p (known_me me) (known_me me') → n ≡ r
      → notes' ≡ slice_set notes i false → numbers' ≡ changed (finishes p) r numbers
      → IsKept IsSame key (known_me me') notes' numbers' spent
  laid_kept {c} {n} {r} {p} {notes'} {numbers'} me' put is less new =
      let f = laid.front in
      let w = front_bytes contents me.1 in
      let kept = subst (λ (l : List (ℕ × SlotStanding B)). IsKept IsSame key (me.0.known, l) notes numbers spent) f.is laid.kept in
      let small : p < 2 ^ 60 = let low = put.low in let limit = c.limit_in_range in omega (arith, low, limit) in
      kept_put IsSame key (known_me me') me.0.known i f.slot f.others notes notes' numbers numbers' spent r p w kept
      less (new ∙ ap (changed (finishes p) r) laid.kept.numbers) small
      (ap (λ (u : Known). (u, me'.1)) (put.view ∙ ap (λ q. put_at q i p w me.0.known) is)
      ∙ ap (λ (l : List (ℕ × SlotStanding B)). (put_at r i p w me.0.known, l)) (put.slots ∙ ap rest f.is))

  pub laid_put : {c : Setup} {n r p : ℕ} {later : TableId} (me' : Me (SlotStanding B) Sight) → HasPut contents c n i p (known_me me) (known_me me') → n ≡ r
      → later ≡ table → standing_of later key me' ≡ having_seen me'.0.seen (seat_after_put r i p (bytes_in_hand contents s.hand i) s)
  laid_put {c} {n} {r} {p} {later} me' put is same =
      put_standing contents IsSame me.0.seen me'.0.seen table later key (known_me me) (known_me me') me.0.known me.1 key.given.value.items i buffer s r p
      laid.stands same refl laid.there laid.front (put.view ∙ ap (λ q. put_at q i p (front_bytes contents me.1) me.0.known) is) put.slots

  -- the call is one of the run
  pub laid_call : {shared_table : TableId} {self : Identity B} (later : TableId) (shared : Key B) (me' : Me (SlotStanding B) Sight) → s.band ≡ self
      → identity_of shared_table shared ≡ self → Went shared.setup (opening_of contents shared.given.value.items) me.0 me'.0
      → {v : Known} → me'.0.known ≡ v → (my v).part.phase ≡ Idle → (my v).number ≡ (my me.0.known).number
      → IsCallInRun self.setup (opening_of contents self.given) (caller_of s) (caller_of (standing_of later key me'))
  laid_call {shared_table} {self} later shared me' own shared_is went view rests same =
      call_seen contents table later shared_table key shared self s me me' laid.stands own shared_is went laid.kept.idle view rests same
