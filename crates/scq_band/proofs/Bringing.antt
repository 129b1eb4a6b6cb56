-- A slot that is out goes home before the table closes. Plan: its index is in the seat's hand, so it is in no entry and in no
-- other hand; so no line of the rule speaks of this slot but the seat's own.
use Rattle.std.proofs.Common.{◌≡◌, ◌≢◌, ◌⊎◌, ℕ, ◌<◌, List, [], ◌∷◌, length, refl, sym, ◌∙◌, ap, subst, inl, inr, arith, eq-eqb, ◌++◌}
use Rattle.std.specs.Prelude.{Option, slice_set, slice_index}
use Rattle.std.specs.List.{Contains}
use Rattle.std.proofs.lemmas.List.{length-set, set-get_or}
use Rattle.std.proofs.lemmas.List.Elements.{Contains-push_cases}
use mathlib.Core.Option.{some}
use mathlib.Core.Option as maybe
use lib.ListN.{get_elem?}
use Rattle.atomic_table.specs.Table.{State, Me, Allows, gives, rest}
use Rattle.atomic_table.proofs.Lists.{at_set, set_here}
use Rattle.scq_word.specs.declared.setup.Setup.{Setup}
use Rattle.scq_core.specs.declared.step.Step.{Step}
use Rattle.scq_word.specs.Exports.{n_of, index_in}
use Rattle.scq_core.specs.Exports.{ring_slots}
use Rattle.scq_law.specs.Exports.{times, OneHand}
use Rattle.scq_law.proofs.Places.HandLaws.{one_hand}
use Rattle.scq_band.proofs.RunEnds.{reaches}
use Rattle.scq_band.specs.Exports.{Member, IsMember, Scene, Has, Owns, IsView, StandsAmong, my, front_index, indices_of, at_home, MayBring}
use Rattle.scq_band.specs.Known.{Known}
use Rattle.scq_band.specs.Shown.{Shown}
use Rattle.scq_band.proofs.GoingHome.{contained_cases}
use Rattle.scq_band.proofs.StandingSeats.{seat_apart, set_stands}
use Rattle.scq_band.proofs.Handles.{has_else, in_hand_alone, hand_or_entry}

-- what stands in a list has its index there
times_contained : {A : Type 0} (xs : List (ℕ × A)) (b : ℕ × A) → Contains xs b → 0 < times b.0 (indices_of xs)
times_contained [] b has = let low = has.1 in absurd (omega (arith, low))
times_contained {A} (x ∷ xs) b has =
    elim (contained_cases x b xs has) [
      | inl same ↦ rw (eq-eqb x.0 b.0 (ap (λ (p : ℕ × A). p.0) same)) (omega arith)
      | inr there ↦ let rest = times_contained xs b there in omega (arith, rest)
    ]

module _ {S : Type 0} (Lies : ℕ → S → List ℕ → Type 0) where
  -- a member of a view, where it has brought these home
  with_brought : {c : Setup} {z : Scene} {homes later : List (maybe.Option S)} {id n : ℕ} {x : Member} (brought : List (ℕ × List ℕ))
      → IsMember Lies c z homes id n x → ((b : ℕ × List ℕ) → Contains brought b → (0 < times b.0 x.part.hand) × Has Lies later b.0 b.1)
      → IsMember Lies c z later id n (record x { brought = brought })
  with_brought brought is there = record { low = is.low; owner = is.owner; part = is.part; gone = is.gone; brought = there }

  -- the seats of another view
  owns_beside : (c : Setup) (z : Scene) (homes : List (maybe.Option S)) (id j k i : ℕ) (y : S) → OneHand c z.state → i < n_of c.order
      → 0 < times i (z.state.part k).hand → z.owner k ≡ (id, 0) → j ≢ id → (xs : List Member) → Owns Lies c z homes j xs
      → Owns Lies c z (slice_set homes i (some y)) j xs
  owns_beside c z homes id j k i y one low here mine apart [] owns = tt
  owns_beside c z homes id j k i y one low here mine apart (x ∷ xs) owns =
      let x_is = owns.0 in
      let other = seat_apart z.owner x.number k j id x_is.owner mine apart in (
        with_brought x.brought x_is
            (λ b there.
            let was = x_is.brought b there in
            let else : b.0 ≢ i =
            λ e.
            let seen : 0 < times i (z.state.part x.number).hand = rw (x_is.part, ← e) was.0 in
            in_hand_alone Lies c z.state i k x.number one low here seen other in
            (was.0, has_else Lies homes i b.0 (some y) b.1 else was.1)),
        owns_beside c z homes id j k i y one low here mine apart xs owns.1,
      )

  -- the rule with the slot at home
  brought_shown : {opening : List (List ℕ)} {gone : ℕ → Option ℕ}
      {run : List (ℕ × Step)} (c : Setup) (s : State S Known) (id : ℕ) (v : Known) (i : ℕ) (y : S) (w : List ℕ) → v.seats ≡ my v ∷ []
      → 0 < times i (my v).part.hand → times i (indices_of (my v).brought) ≡ 0 → Lies i y w → (sh : Shown Lies opening c gone run s)
      → get_elem? s.views id ≡ some v
      → Shown Lies opening c gone run (record { words = s.words; homes = slice_set s.homes i (some y); views = slice_set s.views id (at_home ((i, w) ∷ []) v) })
  brought_shown {opening} {gone} {run} c s id v i y w alone held new lies sh here =
      let z = sh.scene in
      let m = z.state in
      let x = my v in
      let k = x.number in
      let mine = sh.views id v here in
      let owns : Owns Lies c z s.homes id (x ∷ []) = subst (λ (xs : List Member). Owns Lies c z s.homes id xs) alone mine.seats in
      let x_is = owns.0 in
      let one = one_hand c m (reaches sh.leads) in
      let in_hand : 0 < times i (m.part k).hand = rw x_is.part held in
      let low = one.in_hands i k in_hand in
      let homes = slice_set s.homes i (some y) in
      let put : Has Lies homes i w = record { value = y; here = set_here s.homes i (some y) (let room = sh.room in omega arith); lies = lies } in
      record {
        scene = z;
        leads = sh.leads;
        gone_is = sh.gone_is;
        made = sh.made;
        words = sh.words;
        awake_seats = sh.awake_seats;
        room = length-set s.homes i (some y) ∙ sh.room;
        views =
            λ j u e.
            elim (at_set s.views id j (at_home ((i, w) ∷ []) v) u e) [
              | inl at ↦
                  let view : IsView Lies c z homes (slice_index s.words 0) id (at_home ((i, w) ∷ []) v) = record {
                    seats = (
                      with_brought (x.brought ++ (i, w) ∷ []) x_is
                          (λ b there.
                          elim (Contains-push_cases x.brought (i, w) b there) [
                            | inl before ↦
                                let was = x_is.brought b before in
                                let other : b.0 ≢ i =
                                λ same.
                                let some_there = times_contained x.brought b before in
                                let none_there : times b.0 (indices_of x.brought) ≡ 0 = rw same new in
                                omega (arith, some_there, none_there) in
                                (was.0, has_else Lies s.homes i b.0 (some y) b.1 other was.1)
                            | inr now ↦
                                subst (λ (q : ℕ × List ℕ). (0 < times q.0 x.part.hand) × Has Lies homes q.0 q.1) now (held, put)
                          ]),
                      tt,
                    );
                    rings = seated mine.rings;
                    numbers = mine.numbers;
                    last_gate = mine.last_gate;
                  } in
                  rw at.0 (subst (λ (u : Known). IsView Lies c z homes (slice_index s.words 0) id u) at.1 view)
              | inr other ↦
                  let old = sh.views j u other.1 in
                  record {
                    seats = owns_beside c z s.homes id j k i y one low in_hand x_is.owner other.0 u.seats old.seats;
                    rings = old.rings;
                    numbers = old.numbers;
                    last_gate = old.last_gate;
                  }
            ];
        stored =
            λ r p there full.
            let else : index_in (ring_slots c) (m.cells.entries.word r p) ≢ i =
            λ is. hand_or_entry Lies c m i k r p one low in_hand there is in
            has_else Lies s.homes i _ (some y) _ else (sh.stored r p there full);
        all_stand =
            λ j stands_low.
            set_stands s.views id j v (at_home ((i, w) ∷ []) v) here
            (λ a. let one : ((my v).number ≡ j) ⊎ ⊥ = subst (StandsAmong j) alone a in one)
            (sh.all_stand j stands_low);
      }
    where
      seated : (v.seats ≡ []) ⊎ (length v.numbers ≡ c.rings) → ((at_home ((i, w) ∷ []) v).seats ≡ []) ⊎ (length v.numbers ≡ c.rings)
      seated (inl none) = let no : my v ∷ [] ≡ [] = sym alone ∙ none in absurd (cc)
      seated (inr all) = inr all

  brings_first : {opening : List (List ℕ)} {gone : ℕ → Option ℕ} {run : List (ℕ × Step)} (c : Setup) (slots id : ℕ) (w : List ℕ) (v : Known)
      (cs : List (ℕ × S)) → MayBring Lies w (v, cs)
      → Allows (Shown Lies opening c gone run) slots id (v, cs) 0 (λ n. n) (λ n later. later ≡ (at_home ((front_index cs, w) ∷ []) v, rest cs))
  brings_first c slots id w v [] may s sh many here small = absurd may.front
  brings_first {opening} {gone} {run} c slots id w v (x ∷ xs) may s sh many here small =
      let same : slice_set s.words 0 (slice_index s.words 0) ≡ s.words = set-get_or s.words 0 0 in
      let shown = brought_shown {opening = opening} {gone = gone} {run = run} c s id v x.0 x.1 w may.seats may.held may.apart may.front.1 sh here in
      let now : Shown Lies opening c gone run (record {
        words = slice_set s.words 0 (slice_index s.words 0);
        homes = slice_set s.homes x.0 (some x.1);
        views = slice_set s.views id (at_home ((x.0, w) ∷ []) v);
      }) =
      subst (λ (ws : List ℕ). Shown Lies opening c gone run (record {
        words = ws;
        homes = slice_set s.homes x.0 (some x.1);
        views = slice_set s.views id (at_home ((x.0, w) ∷ []) v);
      })) (sym same) shown in
      (at_home ((x.0, w) ∷ []) v, gives, tt, now, refl)

  -- the slot that stands first may go home
  pub brings : {opening : List (List ℕ)} {gone : ℕ → Option ℕ} {run : List (ℕ × Step)} (c : Setup) (slots id : ℕ) (w : List ℕ) (me : Me S Known)
      → MayBring Lies w me
      → Allows (Shown Lies opening c gone run) slots id me 0 (λ n. n) (λ n later. later ≡ (at_home ((front_index me.1, w) ∷ []) me.0, rest me.1))
  brings c slots id w me may = brings_first c slots id w me.0 me.1 may
