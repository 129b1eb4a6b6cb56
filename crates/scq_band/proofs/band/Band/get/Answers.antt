use Rattle.std.proofs.Common.{◌≡◌, ◌<◌, ◌≤◌, ◌+◌, ◌^◌, ℕ, true, length, refl, sym, ◌∙◌, ap, subst, arith, List, [], ◌∷◌, ◌++◌, inl, inr, eq-eqb, ne_eqb}
use Rattle.std.specs.Prelude.{Option, Some, None, Result, Err, slice_set}
use Rattle.std.proofs.lemmas.Bool.{cases_eq}
use Rattle.std.proofs.lemmas.List.{append-nil}
use Rattle.atomic_table.specs.Table.{rest}
use Rattle.scq_word.specs.Exports.{n_of}
use Rattle.scq_band.specs.declared.calls.DeqRefusal.{DeqRefusal}
use Rattle.scq_band.specs.declared.calls.DeqRefusal.TheVariants.{Empty, Spent}
use Rattle.scq_band.specs.Exports.{IsRing, IsCallInRun, LiesIn, opening_of, known_of, changed, passes, drew, empties, RisesInHead, HasGotAfter}
use Rattle.scq_band.specs.Exports.{HasFoundNone, HasSpentGet, known_me, my, Identity, caller_of, standing_of, Caller, front_index, in_hand, with_buffer}
use Rattle.scq_band.specs.Exports.{IsAsGiven, SeatHasTaken, IsKept, IsRotation}
use Rattle.scq_band.specs.Slots.{SlotStanding}
use Rattle.scq_word.specs.declared.setup.Setup.{Setup}
use Rattle.scq_band.specs.declared.numbers.Numbers.{Numbers}
use Rattle.scq_core.specs.declared.phase.Phase.TheVariants.{Idle}
use Rattle.scq_band.specs.Known.{Known}
use Rattle.scq_band.specs.Standing.{Standing}
use Rattle.scq_band.proofs.Keeping.{none_rises, call_seen, empty_seen, kept_got, got_standing, if_drawn, kept_none, none_standing, kept_spent_get, spent_get_standing, known_read, known_here}
use Rattle.scq_band.proofs.Exchanging.{Brought, same_slot}
use Rattle.scq_band.proofs.LaidFirst.{ring_there, known_so, keeps_none, came_first, lent_first}
use Rattle.scq_band.proofs.Refusals.{ok_no_err, empty_no_spent, spent_no_empty}
use Rattle.scq_band.proofs.band.Band.get.Goals as goal
use Rattle.scq_band.proofs.band.Band.get.Goals.{After-dequeue-found, After-index-known, After-finds_none-later, After-lift_first-buffer, In-Some, In-Ok, In-Nothing, In-Spent}

-- what two answers that are the same say
no_ticket : {t : ℕ} → ◌≡◌ {A = Option ℕ} None (Some t) → ⊥
no_ticket is = cc

same_head : {B : Type 0} {a b : ℕ} → ◌≡◌ {A = Result (ℕ × ℕ × B) DeqRefusal} (Err (Empty a)) (Err (Empty b)) → a ≡ b
same_head is = cc

same_ticket : {B : Type 0} {a b : ℕ} → ◌≡◌ {A = Result (ℕ × ℕ × B) DeqRefusal} (Err (Spent a)) (Err (Spent b)) → a ≡ b
same_ticket is = cc

-- what the seat knows of the ring
knows : (g : _) (c : After-index-known g) → c.index-known.result.now ≡ known_of c.seat.inside.numbers.items c.args.ring
knows g c =
    known_read c.seat.inside.numbers.items c.args.ring c.index-known.result.now
    (ring_there c.seat.inside.key.value c.seat.inside.token.me _ c.seat.view_is c.requires.seat c.seat.invariant.rings
    c.requires.ring) c.index-known.ensures

-- what is told of a ring of one band is told of the same ring of the same band
told_of : {B : Type 0} {a b : Identity B} {n r : ℕ} (P : Identity B → ℕ → Type 0) → a ≡ b → n ≡ r → P a n → P b r
told_of {B} {a} {b} {n} {r} P same number is = subst (λ (i : Identity B). P i r) same (subst (P a) number is)

-- what was got, told of the seat's own ring and setup
got : (g : _) (c : In-Ok g) → HasGotAfter (LiesIn g.B.Buffer.contents g.B.Buffer.IsSameBuffer c.seat.inside.key.value.given.value.items)
    c.seat.inside.key.value.setup c.args.ring c.in-Ok.place c.in-Ok.index (known_me c.seat.inside.token.me) (known_me c.dequeue-found.new.token.me)
got g c =
    told_of (λ (b : Identity g.row.B.Denot) r. HasGotAfter (LiesIn g.B.Buffer.contents g.B.Buffer.IsSameBuffer b.given) b.setup r c.in-Ok.place c.in-Ok.index
    (known_me c.seat.inside.token.me) (known_me c.dequeue-found.new.token.me))
    (sym (ap (λ (s : Standing g.row.B.Denot). s.band) c.seat.view_is ∙ c.requires.seat ∙ sym c.self.view_is)) c.ring.ensures.number c.in-Ok.ensures.got

above : (g : _) (c : In-Ok g) → HasGotAfter (LiesIn g.B.Buffer.contents g.B.Buffer.IsSameBuffer c.seat.inside.key.value.given.value.items)
    c.seat.inside.key.value.setup c.args.ring c.in-Ok.place c.in-Ok.index (known_me c.seat.inside.token.me) (known_me c.dequeue-found.new.token.me)
    → (known_of c.seat.inside.numbers.items c.args.ring).head ≤ c.in-Ok.place
above g c gets =
    known_so (λ x. x.head ≤ c.in-Ok.place) c.seat.inside.numbers.items _ c.args.ring c.args.ring c.seat.invariant.numbers refl
    (ring_there c.seat.inside.key.value c.seat.inside.token.me _ c.seat.view_is c.requires.seat c.seat.invariant.rings
    c.requires.ring) gets.above

-- that nothing was found, told likewise
found : (g : _) (c : In-Nothing g) → HasFoundNone c.args.self.now.setup c.args.ring c.in-Nothing.drawn (known_me c.seat.inside.token.me)
    (known_me c.dequeue-found.new.token.me)
found g c =
    told_of (λ (b : Identity g.row.B.Denot) r. HasFoundNone b.setup r c.in-Nothing.drawn (known_me c.seat.inside.token.me) (known_me c.dequeue-found.new.token.me))
    c.self.view_is c.ring.ensures.number (c.dequeue-found.ensures.nothing c.in-Nothing.drawn (c.in-Err.is ∙ ap (λ w. Err w) c.in-Nothing.is))

-- and the head number is that of what the seat knows now
later-is : (g : _) (c : After-finds_none-later g) → c.index-known.result.now ≡ known_of c.seat.inside.numbers.items c.args.ring → c.finds_none-later.result ≡ empties (drew c.in-Nothing.drawn (known_of c.seat.inside.numbers.items c.args.ring))
later-is g c known = c.finds_none-later.ensures ∙ ap (λ x. empties (drew c.in-Nothing.drawn x)) known

pub dequeue-found-requires-clause-own : goal.dequeue-found-requires-clause-own
dequeue-found-requires-clause-own g c κs within =
    let ident = ap (λ (s : Standing g.row.B.Denot). s.band) c.seat.view_is ∙ c.requires.seat ∙ sym c.self.view_is in
    (ap (λ (i : Identity g.row.B.Denot). i.table) ident, c.self.invariant.words)

pub dequeue-found-requires-clause-ring : goal.dequeue-found-requires-clause-ring
dequeue-found-requires-clause-ring g c κs within =
    subst (λ (s : Setup). IsRing s c.ring.result.now) (sym (ap (λ (i : Identity g.row.B.Denot). i.setup) c.self.view_is)) c.ring.ensures.ring

pub dequeue-found-requires-clause-alone : goal.dequeue-found-requires-clause-alone
dequeue-found-requires-clause-alone g c κs within = c.seat.invariant.alone

pub dequeue-found-requires-clause-idle : goal.dequeue-found-requires-clause-idle
dequeue-found-requires-clause-idle g c κs within = (c.seat.invariant.idle, sym c.seat.invariant.spent ∙ c.in_default.is)

-- the seat keeps a ticket
still_spent : (g : _) (c : In-Some g) → c.args.seat.now.spent ≡ None → ⊥
still_spent g c fresh =
    no_ticket (sym fresh ∙ sym (c.seat.invariant.spent ∙ ap (λ (s : Standing g.row.B.Denot). s.spent) c.seat.view_is) ∙ c.in-Some.is)

pub returns-in-Ok-clause-kept : goal.returns-in-Ok-clause-kept
returns-in-Ok-clause-kept g c t is = keeps_none _ c.seat.inside.token.me c.seat.invariant c.seat.view_is c.in_default.is is

pub returns-in-Nothing-clause-kept : goal.returns-in-Nothing-clause-kept
returns-in-Nothing-clause-kept g c t is = keeps_none _ c.seat.inside.token.me c.seat.invariant c.seat.view_is c.in_default.is is

pub returns-in-Spent-clause-kept : goal.returns-in-Spent-clause-kept
returns-in-Spent-clause-kept g c t is = keeps_none _ c.seat.inside.token.me c.seat.invariant c.seat.view_is c.in_default.is is

pub returns-in-Some-clause-spent : goal.returns-in-Some-clause-spent
returns-in-Some-clause-spent g c t is fresh = absurd (still_spent g (goal.at.returns-in-Some-clause-spent g c).In-Some fresh)

pub returns-in-Some-clause-run : goal.returns-in-Some-clause-run
returns-in-Some-clause-run g c fresh = absurd (still_spent g (goal.at.returns-in-Some-clause-run g c).In-Some fresh)

-- a slot with a buffer that stands first
filled : {B : Type 0} (ms rs : List (ℕ × SlotStanding B)) (i : ℕ) (x : SlotStanding B) (b : B) → ms ≡ (i, x) ∷ rs → x.buffer ≡ Some b
    → ms ≡ (i, record { buffer = Some b }) ∷ rest ms
filled {B} ms rs i x b is has =
    is ∙ ap (λ (o : Option B). (i, record { buffer = o }) ∷ rs) has
    ∙ ap (λ (os : List (ℕ × SlotStanding B)). (i, record { buffer = Some b }) ∷ os) (sym (ap rest is))

-- what came last is in the hand
in_last : {B : Type 0} (hand : List (ℕ × Option B)) (i : ℕ) (o : Option B) → in_hand hand i ≡ None → in_hand (hand ++ (i, o) ∷ []) i ≡ Some o
in_last [] i o none = rw (eq-eqb i i refl) refl
in_last (x ∷ xs) i o none =
    elim (cases_eq x.0 i) [
      | inl same ↦ let some : Some x.1 ≡ None = rw (eq-eqb x.0 i same) at none in absurd (cc)
      | inr other ↦
          let none_in : in_hand xs i ≡ None = rw (ne_eqb x.0 i other) at none in
          rw (ne_eqb x.0 i other) (in_last xs i o none_in)
    ]

-- the slots as they are
unturned : {S : Type 0} (ms : List (ℕ × S)) → IsRotation ms ms
unturned ms = record { front = []; behind = ms; was = refl; turned = sym (append-nil ms) }

-- what was got, of the seat before its buffer is lifted
taken : (g : _) (c : After-lift_first-buffer g) → HasGotAfter (LiesIn g.B.Buffer.contents g.B.Buffer.IsSameBuffer c.seat.inside.key.value.given.value.items)
    c.seat.inside.key.value.setup c.args.ring c.in-Ok.place c.in-Ok.index (known_me c.seat.inside.token.me) (known_me c.dequeue-found.new.token.me)
    → SeatHasTaken g.B.Buffer.contents g.B.Buffer.IsSameBuffer c.args.ring c.in-Ok.place c.in-Ok.index c.args.seat.now
    (standing_of c.dequeue-found.new.token.table_id c.seat.inside.key.value c.dequeue-found.new.token.me)
taken g c gets =
    got_standing g.B.Buffer.contents g.B.Buffer.IsSameBuffer c.seat.inside.token.me.0.seen c.dequeue-found.new.token.me.0.seen c.seat.inside.token.table_id
    c.dequeue-found.new.token.table_id c.seat.inside.key.value (known_me c.seat.inside.token.me) (known_me c.dequeue-found.new.token.me) c.args.seat.now
    c.args.ring c.in-Ok.place c.in-Ok.index c.seat.view_is c.dequeue-found.ensures.own.0 gets

-- its buffer is in the hand then
there : (g : _) (c : After-lift_first-buffer g)
    → (its : SeatHasTaken g.B.Buffer.contents g.B.Buffer.IsSameBuffer c.args.ring c.in-Ok.place c.in-Ok.index c.args.seat.now
    (standing_of c.dequeue-found.new.token.table_id c.seat.inside.key.value c.dequeue-found.new.token.me))
    → in_hand (standing_of c.dequeue-found.new.token.table_id c.seat.inside.key.value c.dequeue-found.new.token.me).hand c.in-Ok.index ≡ Some (Some its.buffer)
there g c its =
    ap (λ (t : Standing g.row.B.Denot). in_hand t.hand c.in-Ok.index) its.seat ∙ in_last c.args.seat.now.hand c.in-Ok.index (Some its.buffer) its.came

-- and what is kept
kept : (g : _) (c : After-lift_first-buffer g) → HasGotAfter (LiesIn g.B.Buffer.contents g.B.Buffer.IsSameBuffer c.seat.inside.key.value.given.value.items)
    c.seat.inside.key.value.setup c.args.ring c.in-Ok.place c.in-Ok.index (known_me c.seat.inside.token.me) (known_me c.dequeue-found.new.token.me)
    → IsKept g.B.Buffer.IsSameBuffer c.seat.inside.key.value (known_me c.dequeue-found.new.token.me)
    (slice_set c.seat.inside.held.items c.in-Ok.index true) c.note_get.new.numbers.items c.seat.inside.spent
kept g c gets =
    let numbers = c.seat.inside.numbers.items in
    let place = c.in-Ok.place in
    kept_got g.B.Buffer.contents g.B.Buffer.IsSameBuffer c.seat.inside.key.value (known_me c.seat.inside.token.me) (known_me c.dequeue-found.new.token.me)
    c.seat.inside.held.items _ numbers _ _ c.args.ring place c.in-Ok.index c.seat.invariant gets refl c.note_get.ensures

-- what is kept, and seen, of the seat once the buffer is lifted
lent : (g : _) (c : After-lift_first-buffer g) → HasGotAfter (LiesIn g.B.Buffer.contents g.B.Buffer.IsSameBuffer c.seat.inside.key.value.given.value.items)
    c.seat.inside.key.value.setup c.args.ring c.in-Ok.place c.in-Ok.index (known_me c.seat.inside.token.me) (known_me c.dequeue-found.new.token.me)
    → IsKept g.B.Buffer.IsSameBuffer c.seat.inside.key.value (known_me c.lift_first-buffer.new.token.me)
    (slice_set c.seat.inside.held.items c.in-Ok.index true) c.note_get.new.numbers.items c.seat.inside.spent
    × (standing_of c.lift_first-buffer.new.token.table_id c.seat.inside.key.value c.lift_first-buffer.new.token.me
    ≡ record (standing_of c.dequeue-found.new.token.table_id c.seat.inside.key.value c.dequeue-found.new.token.me) {
      hand =
          with_buffer c.in-Ok.index None (standing_of c.dequeue-found.new.token.table_id c.seat.inside.key.value c.dequeue-found.new.token.me).hand;
    })
lent g c gets =
    let keeps = kept g c gets in
    let one = c.dequeue-found.new.token.me in
    lent_first g.B.Buffer.IsSameBuffer one one c.lift_first-buffer.new.token.me (record { buffer = None }) keeps refl refl c.lift_first-buffer.ensures.own.0 refl
    (unturned one.1) (ap front_index gets.got.slots.come) (there g c (taken g c gets)) (λ x is. absurd (cc)) c.lift_first-buffer.ensures.lifted

-- the buffer that is lifted is the one that came
same_buffer : (g : _) (c : After-lift_first-buffer g)
    → (gets : HasGotAfter (LiesIn g.B.Buffer.contents g.B.Buffer.IsSameBuffer c.seat.inside.key.value.given.value.items)
    c.seat.inside.key.value.setup c.args.ring c.in-Ok.place c.in-Ok.index (known_me c.seat.inside.token.me) (known_me c.dequeue-found.new.token.me))
    → (taken g c gets).buffer ≡ c.lift_first-buffer.result
same_buffer g c gets =
    let one = c.dequeue-found.new.token.me in
    let its = taken g c gets in
    let b : Brought g.B.Buffer.IsSameBuffer (known_me one) c.seat.inside.key.value.given.value.items one.1 c.in-Ok.index (Some its.buffer) =
    came_first g.B.Buffer.IsSameBuffer {table = c.dequeue-found.new.token.table_id} one one.1 (kept g c gets) refl (unturned one.1)
    (ap front_index gets.got.slots.come) (there g c its) in
    let same = ap (λ (s : SlotStanding g.row.B.Denot). s.buffer) (same_slot c.in-Ok.index b.slot (record { buffer = Some c.lift_first-buffer.result }) b.others _
    one.1 b.is c.lift_first-buffer.ensures.buffer) in
    let both : Some its.buffer ≡ Some c.lift_first-buffer.result = sym b.has ∙ same in
    cc

pub lift_first-buffer-requires-clause-own : goal.lift_first-buffer-requires-clause-own
lift_first-buffer-requires-clause-own g c κs within =
    c.dequeue-found.ensures.own.0 ∙ ap (λ (i : Identity g.row.B.Denot). i.table)
    (ap (λ (s : Standing g.row.B.Denot). s.band) c.seat.view_is ∙ c.requires.seat ∙ sym c.self.view_is)

pub lift_first-buffer-requires-clause-first : goal.lift_first-buffer-requires-clause-first
lift_first-buffer-requires-clause-first g c κs within =
    let slots = (got g (goal.at.lift_first-buffer-requires-clause-first g c).In-Ok).got.slots in
    (slots.lies.buffer, filled c.dequeue-found.new.token.me.1 _ c.in-Ok.index slots.value slots.lies.buffer slots.come slots.lies.laid)

pub invariant_of-seat : goal.invariant_of-seat
invariant_of-seat g c =
    let at = goal.at.invariant_of-seat g c in
    (lent g at.After-lift_first-buffer (got g at.In-Ok)).0

-- its index is one of those that are noted
pub index_mut-requires : goal.index_mut-requires
index_mut-requires g c =
    let low = (got g (goal.at.index_mut-requires g c).In-Ok).got.low in
    let each = c.seat.invariant.each in
    let whole = c.seat.inside.held.ok in
    omega (arith, low, each, whole)

pub note_get-requires-clause-known : goal.note_get-requires-clause-known
note_get-requires-clause-known g c = knows g (goal.at.note_get-requires-clause-known g c).After-index-known

pub note_get-requires-clause-above : goal.note_get-requires-clause-above
note_get-requires-clause-above g c =
    let at = goal.at.note_get-requires-clause-above g c in
    subst (λ (x : Numbers). x.head ≤ c.in-Ok.place) (sym (knows g at.After-index-known)) (above g at.In-Ok (got g at.In-Ok))

pub returns-in-Ok-clause-got : goal.returns-in-Ok-clause-got
returns-in-Ok-clause-got g c =
    let at = goal.at.returns-in-Ok-clause-got g c in
    let gets = got g at.In-Ok in
    let lift = at.After-lift_first-buffer in
    let its = taken g lift gets in
    let same = same_buffer g lift gets in
    let setup = ap (λ (i : Identity g.row.B.Denot). i.setup) c.self.view_is in
    let numbers = c.seat.invariant.numbers ∙ ap (λ (s : Standing g.row.B.Denot). s.numbers) c.seat.view_is in
    record {
      between = standing_of c.dequeue-found.new.token.table_id c.seat.inside.key.value c.dequeue-found.new.token.me;
      got =
          record {
            taken = its;
            below = subst (λ (s : Setup). c.in-Ok.place < s.limit) setup c.in-Ok.ensures.got.below;
            past = subst (λ (ns : List Numbers). (known_of ns c.args.ring).head ≤ c.in-Ok.place) numbers (above g at.In-Ok gets);
            low = subst (λ (s : Setup). c.in-Ok.index < n_of s.order) setup c.in-Ok.ensures.got.got.low;
          };
      there = there g lift its ∙ ap (λ (b : g.row.B.Denot). Some (Some b)) same;
      given =
          subst (λ (bs : List g.row.B.Denot). IsAsGiven g.B.Buffer.IsSameBuffer bs c.in-Ok.index c.lift_first-buffer.result)
          (ap (λ (i : Identity g.row.B.Denot). i.given) c.requires.seat)
          (subst (λ (b : g.row.B.Denot). IsAsGiven g.B.Buffer.IsSameBuffer c.args.seat.now.band.given c.in-Ok.index b) same its.given);
      lifted = (lent g lift gets).1;
    }

pub finds_none-later-requires-clause-finished : goal.finds_none-later-requires-clause-finished
finds_none-later-requires-clause-finished g c =
    let known = knows g (goal.at.finds_none-later-requires-clause-finished g c).After-index-known in
    subst (λ (x : Numbers). x.finished < 2 ^ 60) (sym known) (c.seat.invariant.small c.args.ring).0

pub finds_none-later-requires-clause-drawn : goal.finds_none-later-requires-clause-drawn
finds_none-later-requires-clause-drawn g c =
    let none = c.dequeue-found.ensures.nothing c.in-Nothing.drawn (c.in-Err.is ∙ ap (λ w. Err w) c.in-Nothing.is) in
    let limit = c.self.inside.table.shared.key.setup.limit_in_range in
    if_drawn (λ ticket. ticket + 1 < 2 ^ 64) c.in-Nothing.drawn (λ t is. let below = none.below t is in omega (arith, limit, below))

pub note_head-requires-clause-known : goal.note_head-requires-clause-known
note_head-requires-clause-known g c = knows g (goal.at.note_head-requires-clause-known g c).After-index-known

pub note_head-requires-clause-rises : goal.note_head-requires-clause-rises
note_head-requires-clause-rises g c =
    let known = c.index-known.result.now in
    subst (λ (y : Numbers). RisesInHead known y) (sym c.finds_none-later.ensures) (none_rises c.in-Nothing.drawn known)

-- that a ticket at or past the limit was drawn, told likewise
spends : (g : _) (c : In-Spent g) → HasSpentGet c.args.self.now.setup c.args.ring c.in-Spent.ticket (known_me c.seat.inside.token.me)
    (known_me c.dequeue-found.new.token.me)
spends g c =
    told_of (λ (b : Identity g.row.B.Denot) r. HasSpentGet b.setup r c.in-Spent.ticket (known_me c.seat.inside.token.me) (known_me c.dequeue-found.new.token.me))
    c.self.view_is c.ring.ensures.number (c.dequeue-found.ensures.spent c.in-Spent.ticket (c.in-Err.is ∙ ap (λ w. Err w) c.in-Spent.is))

pub draws-requires : goal.draws-requires
draws-requires g c = (spends g (goal.at.draws-requires g c).In-Spent).short

pub invariant_of-seat-in-Spent : goal.invariant_of-seat-in-Spent
invariant_of-seat-in-Spent g c =
    let at = goal.at.invariant_of-seat-in-Spent g c in
    kept_spent_get g.B.Buffer.IsSameBuffer c.seat.inside.key.value _ (known_me c.seat.inside.token.me) (known_me c.dequeue-found.new.token.me)
    c.seat.inside.held.items c.seat.inside.numbers.items _ _ c.args.ring c.in-Spent.ticket c.seat.invariant (spends g at.In-Spent)
    (ap (λ (x : Numbers). slice_set c.seat.inside.numbers.items c.args.ring x)
    (c.draws.ensures ∙ ap (passes (c.in-Spent.ticket + 1)) (knows g at.After-index-known)))

pub returns-in-Spent-clause-spent : goal.returns-in-Spent-clause-spent
returns-in-Spent-clause-spent g c ticket is fresh =
    let its = spends g (goal.at.returns-in-Spent-clause-spent g c).In-Spent in
    let same : c.in-Spent.ticket ≡ ticket = same_ticket is in
    rw (← same) (
      spent_get_standing g.B.Buffer.IsSameBuffer c.seat.inside.token.me.0.seen c.dequeue-found.new.token.me.0.seen c.seat.inside.token.table_id
          c.dequeue-found.new.token.table_id c.seat.inside.key.value _ (known_me c.seat.inside.token.me) (known_me c.dequeue-found.new.token.me)
          c.args.seat.now c.args.ring c.in-Spent.ticket c.seat.view_is c.dequeue-found.ensures.own.0 its,
      its.past,
    )

pub invariant_of-seat-in-Nothing : goal.invariant_of-seat-in-Nothing
invariant_of-seat-in-Nothing g c =
    let at = goal.at.invariant_of-seat-in-Nothing g c in
    let none = found g at.In-Nothing in
    kept_none g.B.Buffer.IsSameBuffer c.seat.inside.key.value (known_me c.seat.inside.token.me) (known_me c.dequeue-found.new.token.me) c.seat.inside.held.items
    c.seat.inside.numbers.items _ _ c.args.ring c.in-Nothing.drawn c.seat.invariant none.view none.slots
    (c.note_head.ensures ∙ ap (λ (x : Numbers). slice_set c.seat.inside.numbers.items c.args.ring x) (later-is g at.After-finds_none-later (knows g at.After-index-known)))

-- a call that ended is one of the run
called : (g : _) (c : After-dequeue-found g) → {v : Known} → c.dequeue-found.new.token.me.0.known ≡ v → (my v).part.phase ≡ Idle
    → (my v).number ≡ (my c.seat.inside.token.me.0.known).number
    → IsCallInRun c.args.self.now.setup (opening_of g.B.Buffer.contents c.args.self.now.given) (caller_of c.args.seat.now)
    (caller_of (standing_of c.dequeue-found.new.token.table_id c.seat.inside.key.value c.dequeue-found.new.token.me))
called g c view rests same =
    call_seen g.B.Buffer.contents c.seat.inside.token.table_id c.dequeue-found.new.token.table_id c.self.inside.table.shared.table_id c.seat.inside.key.value
    c.self.inside.table.shared.key c.args.self.now c.args.seat.now c.seat.inside.token.me c.dequeue-found.new.token.me c.seat.view_is c.requires.seat
    c.self.view_is c.dequeue-found.ensures.went c.seat.invariant.idle view rests same

pub returns-in-Ok-clause-run : goal.returns-in-Ok-clause-run
returns-in-Ok-clause-run g c fresh =
    let at = goal.at.returns-in-Ok-clause-run g c in
    let is = (lent g at.After-lift_first-buffer (got g at.In-Ok)).1 in
    subst (λ (x : Caller). IsCallInRun c.args.self.now.setup (opening_of g.B.Buffer.contents c.args.self.now.given) (caller_of c.args.seat.now) x)
    (sym (ap (λ (s : Standing g.row.B.Denot). caller_of s) is)) (called g at.After-dequeue-found c.in-Ok.ensures.got.got.view refl refl)

pub returns-in-Spent-clause-run : goal.returns-in-Spent-clause-run
returns-in-Spent-clause-run g c fresh =
    let view = (c.dequeue-found.ensures.spent c.in-Spent.ticket (c.in-Err.is ∙ ap (λ w. Err w) c.in-Spent.is)).view in
    called g (goal.at.returns-in-Spent-clause-run g c).After-dequeue-found view refl refl

pub returns-in-Nothing-clause-run : goal.returns-in-Nothing-clause-run
returns-in-Nothing-clause-run g c fresh =
    let at = goal.at.returns-in-Nothing-clause-run g c in
    let view = (found g at.In-Nothing).view in
    called g at.After-dequeue-found view refl refl

pub returns-in-Nothing-clause-empty : goal.returns-in-Nothing-clause-empty
returns-in-Nothing-clause-empty g c head is =
    let at = goal.at.returns-in-Nothing-clause-empty g c in
    let none = found g at.In-Nothing in
    let r = c.args.ring in
    let drawn = c.in-Nothing.drawn in
    let numbers = c.seat.inside.numbers.items in
    let setup = sym (ap (λ (i : Identity g.row.B.Denot). i.setup) c.requires.seat) in
    let standing = c.seat.invariant.numbers ∙ ap (λ (s : Standing g.row.B.Denot). s.numbers) c.seat.view_is in
    let there : r < length numbers = ring_there c.seat.inside.key.value c.seat.inside.token.me _ c.seat.view_is c.requires.seat c.seat.invariant.rings
    c.requires.ring in
    let answered : c.finds_none-later.result.head ≡ head = same_head is in
    let end : (known_of c.dequeue-found.new.token.me.0.known.numbers r).head ≡ (empties (drew drawn (known_of numbers r))).head =
    ap (λ (u : Known). (known_of u.numbers r).head) none.view
    ∙ ap (λ (ns : List Numbers). (known_of (changed (λ x. empties (drew drawn x)) r ns) r).head) (sym c.seat.invariant.numbers)
    ∙ ap (λ (x : Numbers). x.head) (known_here numbers r (empties (drew drawn (known_of numbers r))) there) in
    let known : head ≡ (known_of c.dequeue-found.new.token.me.0.known.numbers r).head =
    sym answered ∙ ap (λ (x : Numbers). x.head) (later-is g at.After-finds_none-later (knows g at.After-index-known)) ∙ sym end in
    let now_there : r < length c.dequeue-found.new.token.me.0.known.numbers =
    let kept = invariant_of-seat-in-Nothing g c in
    subst (λ (ns : List Numbers). r < length ns) kept.numbers
    (ring_there c.seat.inside.key.value c.seat.inside.token.me _ c.seat.view_is c.requires.seat kept.rings c.requires.ring) in
    record {
      seat =
          record {
            drawn = drawn;
            seat =
                none_standing g.B.Buffer.IsSameBuffer c.seat.inside.token.me.0.seen c.dequeue-found.new.token.me.0.seen c.seat.inside.token.table_id
                c.dequeue-found.new.token.table_id c.seat.inside.key.value (known_me c.seat.inside.token.me) (known_me c.dequeue-found.new.token.me) c.args.seat.now r
                drawn c.seat.view_is c.dequeue-found.ensures.own.0 none.view none.slots;
            known = known;
            below = λ t drew_it. subst (λ (s : Setup). t < s.limit) setup (none.below t drew_it);
            past =
                λ t drew_it. subst (λ (ns : List Numbers). (known_of ns r).head ≤ t) standing
                (known_so (λ x. x.head ≤ t) numbers _ r r c.seat.invariant.numbers refl there (none.past t drew_it));
          };
      in_run =
          empty_seen g.B.Buffer.contents c.seat.inside.token.table_id c.dequeue-found.new.token.table_id c.self.inside.table.shared.table_id
          c.seat.inside.key.value c.self.inside.table.shared.key c.args.self.now c.args.seat.now c.seat.inside.token.me c.dequeue-found.new.token.me r head
          c.seat.view_is c.requires.seat c.self.view_is c.dequeue-found.ensures.went c.seat.invariant.idle (ap (λ (u : Known). (my u).part.phase) none.view)
          (ap (λ (u : Known). (my u).number) none.view) now_there known (ap (λ (u : Known). (my u).part.calls) none.view);
    }

pub returns-in-Ok-clause-empty : goal.returns-in-Ok-clause-empty
returns-in-Ok-clause-empty g c head is = absurd (ok_no_err _ _ is)

pub returns-in-Ok-clause-spent : goal.returns-in-Ok-clause-spent
returns-in-Ok-clause-spent g c ticket is fresh = absurd (ok_no_err _ _ is)

pub returns-in-Nothing-clause-spent : goal.returns-in-Nothing-clause-spent
returns-in-Nothing-clause-spent g c ticket is fresh = absurd (empty_no_spent _ _ is)

pub returns-in-Spent-clause-empty : goal.returns-in-Spent-clause-empty
returns-in-Spent-clause-empty g c head is = absurd (spent_no_empty _ _ is)

pub returns-in-Some-clause-empty : goal.returns-in-Some-clause-empty
returns-in-Some-clause-empty g c head is = absurd (spent_no_empty _ _ is)
