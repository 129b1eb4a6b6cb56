-- The order promises what it should: all and only, once, opening puts first, which call ended before another started, and each reply the
-- plain queue's. Plan: the replies by the invariant of PlainReplies, one member after the other; the rest from keys and points.
use Rattle.std.proofs.Common.{◌≡◌, ℕ, suc, ◌+◌, ◌<◌, inl, inr, List, [], ◌∷◌, ◌++◌, length, map, refl, ap, sym, ◌∙◌, subst, arith}
use Rattle.std.specs.Prelude.{Some, slice_get, slice_index_or, ◌-◌}
use Rattle.std.specs.List.{Contains}
use Rattle.std.proofs.lemmas.Bool.{cases_lt, cases_eq}
use Rattle.std.proofs.lemmas.Option.{slice_get-get_or}
use Rattle.scq_word.specs.Exports.{n_of}
use Rattle.scq_core.specs.declared.ended.Ended.TheVariants.{Done, Got, Nothing}
use Rattle.scq_core.specs.Exports.{ring_slots}
use Rattle.scq_hist.specs.declared.events.PutName.{PutName}
use Rattle.scq_hist.specs.declared.events.PutName.TheVariants.{Opening as Token}
use Rattle.scq_hist.specs.declared.events.Reply.TheVariants.{Got as GotReply}
use Rattle.scq_law.proofs.Base.Ghosts.{PutState, placed}
use Rattle.scq_law.proofs.Places.RecordsAgree.{RecordsAgree}
use Rattle.scq_law.proofs.Places.Throughout.{records_agree}
use Rattle.scq_law.specs.declared.ordered.Ordered.{Ordered}
use Rattle.scq_law.specs.declared.ordered.Ordered.TheVariants.{Opening, Call}
use Rattle.scq_law.specs.Exports.{IsFinishedRun, HasEnded, state_before, recorded_last, last_state, IsDecidingStep, name_of_put, Key, key, IsEarlier}
use Rattle.scq_law.specs.Exports.{HasKey, of_nothing, of_put, of_get, IsOrderable, by_done, by_got, by_nothing, IsLinearization, EndedBefore}
use Rattle.scq_law.specs.Exports.{AnswersPlainly, IsOneOrder}
use Rattle.scq_law.specs.RunSteps.{Run}
use Rattle.scq_law.specs.Order.{of_opening}
use Rattle.scq_law.proofs.Order.RunStates.{ghost_before, traced, step_facts}
use Rattle.scq_law.proofs.Order.RunDraws.{follow_run}
use Rattle.scq_law.proofs.Order.Decisions.{stands_in}
use Rattle.scq_law.proofs.Order.PointLemmas.{points_within}
use Rattle.scq_law.proofs.Order.KeyLemmas.{before_apart}
use Rattle.scq_law.proofs.Order.PlainReplies.{In, in_later, in_first, in_cases, in_none, first_low, map_push, Ordering, done, then_on, Holds, get_held, none_below, nothing_held, after_put, after_get, after_nothing}
use Rattle.scq_law.proofs.Order.PlainReplies as plain
use Rattle.scq_law.proofs.Order.PutNames.{put_named, token_named}

-- the content that was placed
abbrev content_of : PutState → List ℕ
content_of (placed i w b) = w
content_of _ = []

in_from : {A : Type 0} (xs : List A) (x : A) → Contains xs x → In xs x
in_from xs x has = (has.0, slice_get-get_or xs has.0 x has.1 ∙ ap Some has.2)

-- what has a key by its member
orderable_of : (run : Run) (r : ℕ) (y : Ordered) (f : Key) → HasKey run r y f → (k n : ℕ) → y ≡ Call k n
    → (call : ℕ) × (n ≡ call + 1) × IsOrderable run r k call
orderable_of run r y f (of_opening j ring low) k n same = absurd (cc)
orderable_of run r y f (of_nothing s c d ended is) k n same =
    let seat : s ≡ k = cc in
    let number : c + 1 ≡ n = cc in (c, sym number, rw (← seat) (by_nothing ended))
orderable_of run r y f (of_put s c p point w ended is) k n same =
    let seat : s ≡ k = cc in
    let number : c + 1 ≡ n = cc in (c, sym number, rw (← seat) (by_done p w ended))
orderable_of run r y f (of_get s c p point w ended is) k n same =
    let seat : s ≡ k = cc in
    let number : c + 1 ≡ n = cc in (c, sym number, rw (← seat) (by_got p w ended))

opening_of : (run : Run) (r : ℕ) (y : Ordered) (f : Key) → HasKey run r y f → (j : ℕ) → y ≡ Opening j
    → (r ≡ 0) × (j < n_of run.setup.order) × (f ≡ key 0 1 (ring_slots run.setup + j))
opening_of run r y f (of_opening i ring low) j same = let index : i ≡ j = cc in (ring, rw (← index) low, rw (← index) refl)
opening_of run r y f (of_nothing s c d ended is) j same = absurd (cc)
opening_of run r y f (of_put s c p point w ended is) j same = absurd (cc)
opening_of run r y f (of_get s c p point w ended is) j same = absurd (cc)

module _ (run : Run) (fin : IsFinishedRun run) (r : ℕ) where
  -- what the plain queue holds for a place
  abbrev token : ℕ → PutName × List ℕ
  token p = ((recorded_last run).placer r p, content_of ((ghost_before run (length run.steps)).puts r p))

  records : RecordsAgree run.setup (ghost_before run (length run.steps)) (last_state run)
  records = records_agree run.setup (length run.steps) (ghost_before run (length run.steps)) (last_state run)
      (traced run fin.recorded fin.is_run (length run.steps) (omega arith))

  opening_stays : (last_state run).opening ≡ run.opening
  opening_stays =
      follow_run (length run.steps) (λ i. (state_before run i).opening ≡ run.opening) refl
      (λ i low old. (step_facts run fin.recorded fin.is_run i low).event.event_facts.opening ∙ old) (length run.steps) (omega arith)

  put_token : (k x p : ℕ) (w : List ℕ) → HasEnded run k x (Done r p w) → token p ≡ (name_of_put ((last_state run).part k).calls k x, w)
  put_token k x p w ended =
      let name = put_named run fin.recorded fin.is_run k x r p w ended in
      let made = (records.done k x r p w ended).is in
      rw (name, made) refl

  opening_token : (j : ℕ) → r ≡ 0 → j < n_of run.setup.order → token (ring_slots run.setup + j) ≡ (Token j, slice_index_or run.opening j [])
  opening_token j ring low =
      let name = token_named run fin.recorded fin.is_run j low in
      let made = records.opens (ring_slots run.setup + j) (omega arith) (omega arith) in
      let index : ring_slots run.setup + j - ring_slots run.setup ≡ j = omega arith in
      let stays = opening_stays in
      rw (ring, name, made, index, stays) refl

  get_token : (k x p : ℕ) (w : List ℕ) → HasEnded run k x (Got r p w) → (token p).1 ≡ w
  get_token k x p w ended = ap content_of (records.got k x r p w ended).is

  -- one member: what is held then, and that it is answered as it should
  data After (ps : List ℕ) (y : Ordered) (rest : List Ordered) : Type 0 where
    next : (qs : List ℕ) → Holds run fin r qs rest → (AnswersPlainly run (map token qs) rest → AnswersPlainly run (map token ps) (y ∷ rest)) → After ps y rest

  pushed : (ps : List ℕ) (p : ℕ) (name : PutName) (w : List ℕ) (rest : List Ordered) → token p ≡ (name, w) → AnswersPlainly run (map token (ps ++ p ∷ [])) rest
      → AnswersPlainly run (map token ps ++ (name, w) ∷ []) rest
  pushed ps p name w rest is answers =
      subst (λ (q : List (PutName × List ℕ)). AnswersPlainly run q rest)
      (map_push token ps p ∙ ap (λ (t : PutName × List ℕ). map token ps ++ t ∷ []) is) answers

  got_first : (k c p : ℕ) (w : List ℕ) (rest : List Ordered) (ps : List ℕ) (point : ℕ) → HasEnded run k c (Got r p w)
      → HasKey run r (Call k (c + 1)) (key point 2 p) → Holds run fin r ps (Call k (c + 1) ∷ rest)
      → ((g : Key) → HasKey run r (Call k (c + 1)) g → plain.Passed run fin r rest g) → In ps p → After ps (Call k (c + 1)) rest
  got_first k c p w rest [] point ended has holds sorted held = absurd (in_none p held)
  got_first k c p w rest (q ∷ qs) point ended has holds sorted held =
      let front : q ≡ p =
      elim (in_cases q qs p held) [
        | inl same ↦ sym same
        | inr later ↦
            absurd (none_below run fin r (Call k (c + 1)) rest (q ∷ qs) holds sorted p point q has (in_first q qs) (first_low q qs
            (plain.rising_of run fin r holds) p later))
      ] in
      next qs (after_get run fin r (Call k (c + 1)) rest q qs holds sorted point (rw front has))
      (λ answers. (
        c,
        Got r p w,
        refl,
        ended,
        ap (λ (v : List ℕ). GotReply ((recorded_last run).placer r p) v) (sym (get_token k c p w ended))
            ∙ ap (λ (z : ℕ). GotReply (token z).0 (token z).1) (sym front),
        answers,
      ))

  nothing_first : (k c d : ℕ) (rest : List Ordered) (ps : List ℕ) → HasEnded run k c (Nothing r) → IsDecidingStep run d k c r
      → HasKey run r (Call k (c + 1)) (key (d + 1) 0 0) → Holds run fin r ps (Call k (c + 1) ∷ rest)
      → ((g : Key) → HasKey run r (Call k (c + 1)) g → plain.Passed run fin r rest g) → After ps (Call k (c + 1)) rest
  nothing_first k c d rest [] ended is has holds sorted =
      next [] (after_nothing run fin r (Call k (c + 1)) rest [] holds sorted (key (d + 1) 0 0) has refl refl) (λ answers.
      (c, Nothing r, refl, ended, refl, answers))
  nothing_first k c d rest (q ∷ qs) ended is has holds sorted =
      absurd (nothing_held run fin r (Call k (c + 1)) rest (q ∷ qs) holds sorted k c d q is has (in_first q qs))

  answered : (ps : List ℕ) (y : Ordered) (rest : List Ordered) (f : Key) → HasKey run r y f → Holds run fin r ps (y ∷ rest)
      → ((g : Key) → HasKey run r y g → plain.Passed run fin r rest g) → After ps y rest
  answered ps y rest f (of_opening j ring low) holds sorted =
      next (ps ++ (ring_slots run.setup + j) ∷ [])
      (after_put run fin r (Opening j) rest ps holds sorted (ring_slots run.setup + j) 0 (of_opening j ring low))
      (pushed ps (ring_slots run.setup + j) (Token j) (slice_index_or run.opening j []) rest (opening_token j ring low))
  answered ps y rest f (of_nothing s c d ended is) holds sorted = nothing_first s c d rest ps ended is (of_nothing s c d ended is) holds sorted
  answered ps y rest f (of_put s c p point w ended is) holds sorted =
      next (ps ++ p ∷ []) (after_put run fin r (Call s (c + 1)) rest ps holds sorted p point (of_put s c p point w ended is))
      (λ answers. (
        c,
        Done r p w,
        refl,
        ended,
        refl,
        pushed ps p (name_of_put ((last_state run).part s).calls s c) w rest (put_token s c p w ended) answers,
      ))
  answered ps y rest f (of_get s c p point w ended is) holds sorted =
      got_first s c p w rest ps point ended (of_get s c p point w ended is) holds sorted
      (get_held run fin r (Call s (c + 1)) rest ps holds sorted p point (of_get s c p point w ended is))

  -- all of them
  answers_from : (ps : List ℕ) (rest : List Ordered) → Ordering run fin r rest → Holds run fin r ps rest → ((z : Ordered) → In rest z
      → (f : Key) × HasKey run r z f)
      → AnswersPlainly run (map token ps) rest
  answers_from ps [] sorted holds keyed = tt
  answers_from ps (y ∷ rest) (then_on first later) holds keyed =
      let mine = keyed y (in_first y rest) in
      elim (answered ps y rest mine.0 mine.1 holds first) [
        | next qs after give ↦ give (answers_from qs rest later after (λ z at. keyed z (in_later y rest z at)))
      ]

  module _ (order : List Ordered) (lin : IsLinearization run r order) where
    ordering : (xs : List Ordered)
        → ((a b : ℕ) (x y : Ordered) (f g : Key) → a < b → slice_get xs a ≡ Some x → slice_get xs b ≡ Some y → HasKey run r x f → HasKey run r y g
        → IsEarlier f g)
        → Ordering run fin r xs
    ordering [] sorted = done
    ordering (y ∷ rest) sorted =
        then_on (λ f has z g at of_z. sorted 0 (suc at.0) y z f g (omega arith) refl at.1 has of_z)
        (ordering rest (λ a b x z f g less first second. sorted (suc a) (suc b) x z f g (omega arith) first second))

    contained : (y : Ordered) (f : Key) → HasKey run r y f → Contains order y
    contained y f (of_opening j ring low) = lin.openings j ring low
    contained y f (of_nothing s c d ended is) = lin.calls s c (by_nothing ended)
    contained y f (of_put s c p point w ended is) = lin.calls s c (by_done p w ended)
    contained y f (of_get s c p point w ended is) = lin.calls s c (by_got p w ended)

    keyed : (z : Ordered) → In order z → (f : Key) × HasKey run r z f
    keyed z at = lin.only z (stands_in order at.0 z at.1)

    plain_answers : AnswersPlainly run [] order
    plain_answers =
        answers_from [] order (ordering order lin.sorted)
        (plain.holds_none run fin r order (λ z g has. in_from order z (contained z g has)))
        keyed

    -- keys of members
    apart : (f : Key) → IsEarlier f f → ⊥
    apart f self = before_apart f f self self

    once : (a b : ℕ) (x : Ordered) → slice_get order a ≡ Some x → slice_get order b ≡ Some x → a ≡ b
    once a b x first second =
        let mine = keyed x (a, first) in
        elim (cases_lt a b) [
          | inl less ↦ absurd (apart mine.0 (lin.sorted a b x x mine.0 mine.0 less first second mine.1 mine.1))
          | inr high ↦
              elim (cases_lt b a) [
                | inl less ↦ absurd (apart mine.0 (lin.sorted b a x x mine.0 mine.0 less second first mine.1 mine.1))
                | inr low ↦ omega arith
              ]
        ]

    call_point : (k n : ℕ) (f : Key) → HasKey run r (Call k n) f → 0 < f.point
    call_point k n f has =
        let o = orderable_of run r (Call k n) f has k n refl in
        let within = points_within run fin.recorded fin.is_run r k o.0 f (subst (λ (z : ℕ). HasKey run r (Call k z) f) o.1 has) in
        let after = within.after in omega arith

    first : (a b j k n : ℕ) → slice_get order a ≡ Some (Opening j) → slice_get order b ≡ Some (Call k n) → a < b
    first a b j k n at_opening at_call =
        let token_key = keyed (Opening j) (a, at_opening) in
        let is = (opening_of run r (Opening j) token_key.0 token_key.1 j refl).2 in
        let mine = keyed (Call k n) (b, at_call) in
        let late = call_point k n mine.0 mine.1 in
        let zero_point : token_key.0.point ≡ 0 = ap (λ (f : Key). f.point) is in
        elim (cases_lt a b) [
          | inl less ↦ less
          | inr high ↦
              elim (cases_eq a b) [
                | inl same ↦ let both : Some (Opening j) ≡ Some (Call k n) = sym at_opening ∙ ap (slice_get order) same ∙ at_call in absurd (cc)
                | inr other ↦
                    elim (lin.sorted b a (Call k n) (Opening j) mine.0 token_key.0 (omega arith) at_call at_opening mine.1 token_key.1).before [
                      | inl less ↦ absurd (omega arith)
                      | inr tie ↦ (let points = tie.0 in absurd (omega arith))
                    ]
              ]
        ]

    ascend : (a b i j : ℕ) → i < j → slice_get order a ≡ Some (Opening i) → slice_get order b ≡ Some (Opening j) → a < b
    ascend a b i j low at_one at_two =
        let one = keyed (Opening i) (a, at_one) in
        let two = keyed (Opening j) (b, at_two) in
        let one_is = (opening_of run r (Opening i) one.0 one.1 i refl).2 in
        let two_is = (opening_of run r (Opening j) two.0 two.1 j refl).2 in
        let one_point : one.0.point ≡ 0 = ap (λ (f : Key). f.point) one_is in
        let two_point : two.0.point ≡ 0 = ap (λ (f : Key). f.point) two_is in
        let one_kind : one.0.kind ≡ 1 = ap (λ (f : Key). f.kind) one_is in
        let two_kind : two.0.kind ≡ 1 = ap (λ (f : Key). f.kind) two_is in
        let one_place : one.0.place ≡ ring_slots run.setup + i = ap (λ (f : Key). f.place) one_is in
        let two_place : two.0.place ≡ ring_slots run.setup + j = ap (λ (f : Key). f.place) two_is in
        elim (cases_lt a b) [
          | inl less ↦ less
          | inr high ↦
              elim (cases_eq a b) [
                | inl same ↦
                    let both : Some (Opening i) ≡ Some (Opening j) = sym at_one ∙ ap (slice_get order) same ∙ at_two in
                    let equal : i ≡ j = cc in
                    absurd (omega arith)
                | inr other ↦
                    elim (lin.sorted b a (Opening j) (Opening i) two.0 one.0 (omega arith) at_two at_one two.1 one.1).before [
                      | inl back ↦ absurd (omega arith)
                      | inr tie ↦ elim tie.1 [
                        | inl kinds ↦ absurd (omega arith)
                        | inr places ↦ (let less = places.1 in absurd (omega arith))
                      ]
                    ]
              ]
        ]

    real_time : (a b seat call k x : ℕ) → slice_get order a ≡ Some (Call seat (call + 1)) → slice_get order b ≡ Some (Call k (x + 1))
        → EndedBefore run seat call k x → a < b
    real_time a b seat call k x at_first at_second apart_in_time =
        let one = keyed (Call seat (call + 1)) (a, at_first) in
        let within_one = points_within run fin.recorded fin.is_run r seat call one.0 one.1 in
        let one_low = within_one.before in
        elim (cases_lt a b) [
          | inl less ↦ less
          | inr high ↦
              elim (cases_eq a b) [
                | inl same ↦
                    let both : Some (Call seat (call + 1)) ≡ Some (Call k (x + 1)) = sym at_first ∙ ap (slice_get order) same ∙ at_second in
                    let member : Call seat (call + 1) ≡ Call k (x + 1) = cc in
                    let within = points_within run fin.recorded fin.is_run r k x one.0 (subst (λ (y : Ordered). HasKey run r y one.0) member one.1) in
                    let after = within.after in
                    let less = apart_in_time within_one.last within.first within_one.is_last within.is_first in
                    absurd (omega arith)
                | inr other ↦
                    let two = keyed (Call k (x + 1)) (b, at_second) in
                    let within = points_within run fin.recorded fin.is_run r k x two.0 two.1 in
                    let after = within.after in
                    let less = apart_in_time within_one.last within.first within_one.is_last within.is_first in
                    elim (lin.sorted b a (Call k (x + 1)) (Call seat (call + 1)) two.0 one.0 (omega arith) at_second at_first two.1 one.1).before [
                      | inl back ↦ absurd (omega arith)
                      | inr tie ↦ (let points = tie.0 in absurd (omega arith))
                    ]
              ]
        ]

    pub one_order : IsOneOrder run r order
    one_order =
        record {
          calls = lin.calls;
          openings = lin.openings;
          only_calls = λ seat number at. (let mine = lin.only (Call seat number) at in orderable_of run r (Call seat number) mine.0 mine.1 seat number refl);
          only_openings =
              λ j at. (let mine = lin.only (Opening j) at in let is = opening_of run r (Opening j) mine.0 mine.1 j refl in (is.0, is.1));
          once = once;
          first = first;
          ascend = ascend;
          real_time = real_time;
          points = λ seat call f has. points_within run fin.recorded fin.is_run r seat call f has;
          plain = plain_answers;
        }
