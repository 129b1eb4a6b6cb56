-- A band that closes: its last state has all seats in one view, with every slot at home. So each clause on records, hands and
-- buffers is a fact of that state.
use Rattle.std.proofs.Common.{◌≡◌, ℕ, zero, suc, ◌<◌, ◌≤◌, List, [], ◌∷◌, ◌++◌, map, length, refl, sym, ◌∙◌, ap, subst, inl, inr, arith}
use Rattle.std.specs.Prelude.{All, Option, Some, None, slice_get, slice_index, slice_index_or}
use Rattle.std.specs.List.{Contains}
use Rattle.std.proofs.lemmas.List.Elements.{All-nil, All-cons, All-append, Contains-get_or, Contains-append_left, Contains-append_right}
use Rattle.std.proofs.lemmas.Option.{slice_get_within, get_or_from_slice_get}
use mathlib.Core.Option.{some}
use lib.ListN.{get_elem?}
use Rattle.atomic_table.specs.Seated.{TableId}
use Rattle.atomic_table.specs.Table.{State, Final, Seen as OfView}
use Rattle.scq_word.specs.declared.setup.Setup.{Setup}
use Rattle.scq_word.specs.Exports.{n_of}
use Rattle.scq_core.specs.declared.ended.Ended.{Ended}
use Rattle.scq_core.specs.declared.phase.Phase.TheVariants.{Idle}
use Rattle.scq_core.specs.declared.step.Step.{Step}
use Rattle.scq_core.specs.Exports.{Cells, SeatPart}
use Rattle.scq_core.specs.Machine.{Machine}
use Rattle.scq_core.proofs.Indices.{HasIndices, has_indices}
use Rattle.scq_law.specs.Exports.{left_in, run_of, IsFinishedRun, AllPrefixes}
use Rattle.scq_law.proofs.Aspects.EmptyRight.{has_aspects}
use Rattle.scq_law.proofs.Aspects.CoupledRuns.{tied_run}
use Rattle.scq_law.proofs.Aspects.RecordsShown.{records_shown}
use Rattle.scq_law.proofs.Order.OrderExists.{order_exists}
use Rattle.scq_law.proofs.Order.OrderLaw.{one_order}
use Rattle.scq_law.proofs.Progress.ProgressLaws.{has_progress}
use Rattle.scq_law.proofs.Progress.WholeCalls.{delayed_by_ends}
use Rattle.scq_law.proofs.Progress.AloneCalls.{ends_alone}
use Rattle.scq_band.specs.declared.numbers.Numbers.{Numbers}
use Rattle.scq_band.specs.Slots.{SlotStanding}
use Rattle.scq_band.specs.Exports.{LiesIn, opening_of, Seen, Caller, Member, Sight, known_state, ShowsRun, ShowsWords, Has, Owns, awake, Identity}
use Rattle.scq_band.specs.Exports.{caller_of, identity_of, full_slot, IsBrought, OutOrHome, IsMemberOf, AreMembersOf, HeadsKnown, GatesKnown, HasAll}
use Rattle.scq_band.specs.Exports.{all_seen, indices_of, IsOneRun, EachGetHasItsPut, NoneIsPutTwice, NoneIsGotTwice, EachPutPassedIsGot, IsBalance}
use Rattle.scq_band.specs.Exports.{IsAllThere, EachIsInOneHand, EachSpentIsPastTheBound, EachLeftIsItsPut, StandsAtItsPut, IsOneRunToTheEnd, IsLeft}
use Rattle.scq_band.specs.Exports.{AreTheSame, ComesBackAsItWas, with_laid, laid_of, held_buffers, AllRetiredWhereClosed, EachSeenRetiredHas}
use Rattle.scq_band.specs.Exports.{all_calls, all_hands, all_known, all_spent, callers_of}
use Rattle.scq_band.specs.Known.{Known}
use Rattle.scq_band.proofs.Gates.{none_awake}
use Rattle.scq_band.proofs.RunEnds.{reaches, opens_with}
use Rattle.scq_band.proofs.RunShown.{known_at}
use Rattle.scq_band.specs.Shown.{Shown}
use Rattle.scq_band.specs.declared.rule.Key.{Key}
use Rattle.scq_band.specs.Standing.{Standing}
use Rattle.scq_band.proofs.AllSeats.{AreAllSeats, are_all, member_at, seat_at}
use Rattle.scq_band.proofs.ClosedRecords.{map_back, map_on, member_records, AllRest, gets_have_puts, none_put_twice, none_twice, passed_is_got}
use Rattle.scq_band.proofs.ClosedCounts.{hands_of, kept_by, IsLeftOf, is_balance, all_there, spent_past, each_in_one_hand}
use Rattle.scq_band.proofs.Unloading.{read_some}
use Rattle.scq_band.proofs.GoingHome.{contains_behind, contains_none}
use Rattle.scq_band.proofs.LeftBuffers.{AllBrought, all_home, lefts_at_home, lefts_stand}

module _ {B : Type 0} (contents : B → List ℕ) where
  -- a member and the seat that it was
  member_of : (seats : List (Standing B)) (xs : List Member) → AreMembersOf contents seats xs → (a : ℕ) (x : Member) → slice_get xs a ≡ Some x
      → (s : Standing B) × (slice_get seats a ≡ Some s) × IsMemberOf contents s x
  member_of [] [] are a x e = absurd (cc)
  member_of [] (y ∷ ys) are a x e = absurd are
  member_of (s ∷ ss) [] are a x e = absurd (cc)
  member_of (s ∷ ss) (y ∷ ys) are zero x e = let same : y ≡ x = cc in (s, refl, subst (λ (u : Member). IsMemberOf contents s u) same are.0)
  member_of (s ∷ ss) (y ∷ ys) are (suc a) x e = member_of ss ys are.1 a x e

  -- a seat and the member that it has become
  seat_member : (seats : List (Standing B)) (xs : List Member) → AreMembersOf contents seats xs → (a : ℕ) (s : Standing B) → slice_get seats a ≡ Some s
      → (x : Member) × (slice_get xs a ≡ Some x) × IsMemberOf contents s x
  seat_member [] xs are a s e = absurd (cc)
  seat_member (t ∷ ts) [] are a s e = absurd are
  seat_member (t ∷ ts) (y ∷ ys) are zero s e = let same : t ≡ s = cc in (y, refl, subst (λ (u : Standing B). IsMemberOf contents u y) same are.0)
  seat_member (t ∷ ts) (y ∷ ys) are (suc a) s e = seat_member ts ys are.1 a s e

  members_count : (seats : List (Standing B)) (xs : List Member) → AreMembersOf contents seats xs → length xs ≡ length seats
  members_count [] [] are = refl
  members_count [] (y ∷ ys) are = absurd are
  members_count (s ∷ ss) [] are = absurd are
  members_count (s ∷ ss) (y ∷ ys) are = ap suc (members_count ss ys are.1)

  -- what the members have is what contracts see of the seats
  same_lists : {A : Type 0} (f : Member → A) (h : Standing B → A) → ((s : Standing B) (x : Member) → IsMemberOf contents s x → f x ≡ h s)
      → (seats : List (Standing B)) (xs : List Member) → AreMembersOf contents seats xs → map f xs ≡ map h seats
  same_lists f h same [] [] are = refl
  same_lists f h same [] (y ∷ ys) are = absurd are
  same_lists f h same (s ∷ ss) [] are = absurd are
  same_lists f h same (s ∷ ss) (y ∷ ys) are =
      ap (λ a. a ∷ map f ys) (same s y are.0) ∙ ap (λ l. h s ∷ l) (same_lists f h same ss ys are.1)

module _ {B : Type 0} where
  gates_at : (ss : List (Standing B)) (gate : Option ℕ) → GatesKnown ss gate → (a : ℕ) (s : Standing B) → slice_get ss a ≡ Some s → (n : ℕ)
      → s.gate ≡ Some n → (k : ℕ) × (gate ≡ Some k) × (k ≤ n)
  gates_at [] gate known a s e n is = absurd (cc)
  gates_at (t ∷ ts) gate known zero s e n is = let same : t ≡ s = cc in known.0 n (ap (λ (u : Standing B). u.gate) same ∙ is)
  gates_at (t ∷ ts) gate known (suc a) s e n is = gates_at ts gate known.1 a s e n is

  heads_at : (ss : List (Standing B)) (known : List Numbers) → HeadsKnown ss known → (a : ℕ) (numbers : List Numbers)
      → slice_get (all_known ss) a ≡ Some numbers → (r : ℕ) (x : Numbers) → slice_get numbers r ≡ Some x
      → (y : Numbers) × (slice_get known r ≡ Some y) × (x.head ≤ y.head)
  heads_at [] known heads a numbers e r x here = absurd (cc)
  heads_at (s ∷ ss) known heads zero numbers e r x here =
      let same : s.numbers ≡ numbers = cc in heads.0 r x (ap (λ (l : List Numbers). slice_get l r) same ∙ here)
  heads_at (s ∷ ss) known heads (suc a) numbers e r x here = heads_at ss known heads.1 a numbers e r x here

-- what each of two lists has
two_lists : (fs gs : List (List (ℕ × Step))) (xs : List (ℕ × Step)) → AllPrefixes (fs ++ gs) xs → AllPrefixes fs xs × AllPrefixes gs xs
two_lists [] gs xs all = (tt, all)
two_lists (f ∷ fs) gs xs all = let rest = two_lists fs gs xs all.1 in ((all.0, rest.0), rest.1)

seen_at : {B : Type 0} (run : List (ℕ × Step)) (seats : List (Standing B)) → AllPrefixes (all_seen seats).runs run → (a : ℕ) (s : Standing B)
    → slice_get seats a ≡ Some s → AllPrefixes s.seen.runs run
seen_at run [] all a s e = absurd (cc)
seen_at {B} run (t ∷ ts) all zero s e =
    let same : t ≡ s = cc in subst (λ (u : Standing B). AllPrefixes u.seen.runs run) same (two_lists (all_seen ts).runs t.seen.runs run all).1
seen_at run (t ∷ ts) all (suc a) s e = seen_at run ts (two_lists (all_seen ts).runs t.seen.runs run all).0 a s e

-- the retired ones that one of them has seen are among those of all
retirees_at : {B : Type 0} (seats : List (Standing B)) (a : ℕ) (s : Standing B) (p : ℕ × ℕ) → slice_get seats a ≡ Some s → Contains s.seen.retirees p
    → Contains (all_seen seats).retirees p
retirees_at [] a s p e has = absurd (cc)
retirees_at {B} (t ∷ ts) zero s p e has =
    let same : t ≡ s = cc in
    Contains-append_right (all_seen ts).retirees t.seen.retirees p (subst (λ (u : Standing B). Contains u.seen.retirees p) (sym same) has)
retirees_at (t ∷ ts) (suc a) s p e has = Contains-append_left (all_seen ts).retirees t.seen.retirees p (retirees_at ts a s p e has)

-- what holds of each buffer that is laid in a hand, and of each that is out
module _ {B : Type 0} (P : ℕ × B → Type 0) where
  all_with_laid : (i : ℕ) (held : Option B) (others : List (ℕ × B)) → ((b : B) → held ≡ Some b → P (i, b)) → All P others → All P (with_laid i held others)
  all_with_laid i None others each rest = rest
  all_with_laid i (Some b) others each rest = All-cons P (i, b) others (each b refl) rest

  all_laid : (hand : List (ℕ × Option B)) → ((i : ℕ) (b : B) → Contains hand (i, Some b) → P (i, b)) → All P (laid_of hand)
  all_laid [] each = All-nil P
  all_laid (x ∷ xs) each =
      all_with_laid x.0 x.1 (laid_of xs) (λ b is. each x.0 b (0, omega arith, ap (λ (h : Option B). (x.0, h)) is))
      (all_laid xs (λ i b has. each i b (contains_behind x (i, Some b) xs has)))

  all_held_buffers : (seats : List (Standing B)) (out : List (ℕ × B))
      → ((a : ℕ) (s : Standing B) → slice_get seats a ≡ Some s → (i : ℕ) (b : B) → Contains s.hand (i, Some b) → P (i, b))
      → ((o : ℕ × B) → Contains out o → P o) → All P (held_buffers seats out)
  all_held_buffers [] out each all = λ k d low. all (slice_index_or out k d) (Contains-get_or out k d low)
  all_held_buffers (s ∷ ss) out each all =
      All-append P (laid_of s.hand) (held_buffers ss out) (all_laid s.hand (λ i b has. each 0 s refl i b has))
      (all_held_buffers ss out (λ a t e. each (suc a) t e) all)

length_images : {A C : Type 0} (f : A → C) (xs : List A) → length (map f xs) ≡ length xs
length_images f [] = refl
length_images f (x ∷ xs) = ap suc (length_images f xs)

module _ {B : Type 0} (contents : B → List ℕ) (IsSame : B → B → Type 0) (given : List B) (c : Setup) (s : State (SlotStanding B) Known) (id : ℕ) (v : Known)
    (seats : List (Standing B)) (gone : ℕ → Option ℕ)
    (run : List (ℕ × Step)) (sh : Shown (LiesIn contents IsSame given) (opening_of contents given) c gone run s) (here : get_elem? s.views id ≡ some v)
    (has : HasAll contents c.rings seats v) (count : length seats ≡ c.seats) (many : length given ≡ n_of c.order) where
  abbrev m : Machine
  m = sh.scene.state

  owns : Owns (LiesIn contents IsSame given) c sh.scene s.homes id v.seats
  owns = (sh.views id v here).seats

  all : AreAllSeats c m v.seats
  all = are_all (LiesIn contents IsSame given) c sh.scene s.homes id v.seats owns (members_count contents seats v.seats has.members ∙ count)

  rest : AllRest v.seats
  rest a x e = (member_of contents seats v.seats has.members a x e).2.idle

  brought : AllBrought v.seats
  brought a x e = (member_of contents seats v.seats has.members a x e).2.brought

  opened : length m.opening ≡ n_of c.order
  opened = ap length (opens_with sh.leads) ∙ length_images contents given ∙ many

  calls : member_records v.seats ≡ all_calls seats
  calls = same_lists contents (λ (x : Member). x.part.calls) (λ (t : Standing B). t.calls) (λ t x is. is.calls) seats v.seats has.members

  hands : hands_of v.seats ≡ all_hands seats
  hands = same_lists contents (λ (x : Member). x.part.hand) (λ (t : Standing B). indices_of t.hand) (λ t x is. is.hand) seats v.seats has.members

  spents : kept_by v.seats ≡ all_spent seats
  spents = same_lists contents (λ (x : Member). x.part.spent) (λ (t : Standing B). t.spent) (λ t x is. is.spent) seats v.seats has.members

  -- each seat of the machine is one of these
  all_idle : (k : ℕ) → k < c.seats → (m.part k).phase ≡ Idle
  all_idle k low =
      let at = seat_at c m v.seats all k low in
      ap (λ (j : ℕ). (m.part j).phase) (sym at.is) ∙ ap (λ (p : SeatPart). p.phase) (all.part at.at at.member at.here) ∙ rest at.at at.member at.here

  -- one run has ended in these records
  pub closed_run : (told : Seen) → AllPrefixes told.runs run → told ≡ all_seen seats
      → IsOneRun c (opening_of contents given) (callers_of seats)
  closed_run told prefixes are =
      let opening = opening_of contents given in
      let recorded = sh.leads.recorded in
      let is_run = sh.leads.is_run in
      let ends : recorded.state ≡ m = sh.leads.ends in
      let all_told : AllPrefixes (all_seen seats).runs run = subst (λ (y : Seen). AllPrefixes y.runs run) are prefixes in
      let fin : IsFinishedRun (run_of c opening run) = record {
        recorded = recorded;
        is_run = is_run;
        idle = λ k low. ap (λ (n : Machine). (n.part k).phase) ends ∙ all_idle k low;
      } in
      record {
        steps = run;
        finished = fin;
        all =
            λ k low.
            let at = seat_at c m v.seats all k low in
            let s = member_of contents seats v.seats has.members at.at at.member at.here in
            (at.at, caller_of s.0, map_on caller_of seats at.at s.0 s.1, sym s.2.number ∙ at.is);
        apart =
            λ a b x y at_a at_b same.
            let t = map_back caller_of seats a x at_a in
            let u = map_back caller_of seats b y at_b in
            let one = seat_member contents seats v.seats has.members a t.0 t.1 in
            let other = seat_member contents seats v.seats has.members b u.0 u.1 in
            all.apart a b one.0 other.0 one.1 other.1
            (one.2.number ∙ ap (λ (z : Caller). z.seat) t.2 ∙ same ∙ sym (ap (λ (z : Caller). z.seat) u.2) ∙ sym other.2.number);
        low =
            λ a x e.
            let t = map_back caller_of seats a x e in
            let one = seat_member contents seats v.seats has.members a t.0 t.1 in
            subst (λ (z : Caller). z.seat < c.seats) t.2 (subst (λ (k : ℕ). k < c.seats) one.2.number (all.low a one.0 one.1));
        records =
            λ a x e.
            let t = map_back caller_of seats a x e in
            let one = seat_member contents seats v.seats has.members a t.0 t.1 in
            subst (λ (z : Caller). (recorded.state.part z.seat).calls ≡ z.calls) t.2
            (ap (λ (n : Machine). (n.part t.0.number).calls) ends ∙ ap (λ (j : ℕ). (m.part j).calls) (sym one.2.number)
            ∙ ap (λ (p : SeatPart). p.calls) (all.part a one.0 one.1) ∙ one.2.calls);
        had_seen =
            λ a x e.
            let t = map_back caller_of seats a x e in
            subst (λ (z : Caller). AllPrefixes z.seen.runs run) t.2 (seen_at run seats all_told a t.0 t.1);
        aspects = has_aspects c opening is_run.full recorded (tied_run c opening run recorded is_run.full is_run.seats is_run);
        progress = has_progress c opening run;
        delayed = delayed_by_ends c opening run;
        alone = ends_alone c opening run;
        history = records_shown c opening run recorded is_run;
        orders =
            λ r.
            let found = order_exists (run_of c opening run) fin r in
            (found.0, found.1, one_order (run_of c opening run) fin r found.0 found.1);
      }

  pub closed_gets : EachGetHasItsPut c (opening_of contents given) (all_calls seats)
  closed_gets =
      subst (λ (o : List (List ℕ)). EachGetHasItsPut c o (all_calls seats)) (opens_with sh.leads)
      (subst (λ (l : List (List Ended)). EachGetHasItsPut c m.opening l) calls (gets_have_puts c m v.seats (reaches sh.leads) all rest opened))

  pub closed_put_once : NoneIsPutTwice c (opening_of contents given) (all_calls seats)
  closed_put_once =
      subst (λ (o : List (List ℕ)). NoneIsPutTwice c o (all_calls seats)) (opens_with sh.leads)
      (subst (λ (l : List (List Ended)). NoneIsPutTwice c m.opening l) calls (none_put_twice c m v.seats (reaches sh.leads) all rest opened))

  pub closed_once : NoneIsGotTwice (all_calls seats)
  closed_once = subst (λ (l : List (List Ended)). NoneIsGotTwice l) calls (none_twice c m v.seats (reaches sh.leads) all rest)

  pub closed_passed : EachPutPassedIsGot c (opening_of contents given) (all_calls seats) (all_known seats)
  closed_passed =
      subst (λ (o : List (List ℕ)). EachPutPassedIsGot c o (all_calls seats) (all_known seats)) (opens_with sh.leads)
      (subst (λ (l : List (List Ended)). EachPutPassedIsGot c m.opening l (all_known seats)) calls
      (passed_is_got c m v.seats (reaches sh.leads) all rest (all_known seats) opened
      (λ a numbers at r x here_too.
      let one = heads_at seats v.numbers has.heads a numbers at r x here_too in
      let true = (sh.views id v here).numbers r one.0 one.1 in
      omega (arith, one.2, true.head))))

  pub closed_balance : (left : List ℕ) → IsLeftOf c m left → IsBalance c (all_calls seats) left
  closed_balance left is = subst (λ (l : List (List Ended)). IsBalance c l left) calls (is_balance c m v.seats (reaches sh.leads) all rest left is)

  pub closed_all_there : (left : List ℕ) → IsLeftOf c m left → IsAllThere c (all_hands seats) left
  closed_all_there left is = subst (λ (l : List (List ℕ)). IsAllThere c l left) hands (all_there c m v.seats (reaches sh.leads) all rest left is)

  pub closed_hands : EachIsInOneHand c (all_hands seats)
  closed_hands = subst (λ (l : List (List ℕ)). EachIsInOneHand c l) hands (each_in_one_hand c m v.seats (reaches sh.leads) all rest)

  pub closed_spent : EachSpentIsPastTheBound c (all_calls seats) (all_spent seats)
  closed_spent =
      subst (λ (l : List (Option ℕ)). EachSpentIsPastTheBound c (all_calls seats) l) spents
      (subst (λ (l : List (List Ended)). EachSpentIsPastTheBound c l (kept_by v.seats)) calls (spent_past c m v.seats (reaches sh.leads) all rest))

  pub closed_gate : AllRetiredWhereClosed seats
  closed_gate a b reader other at_a is at_b =
      let read = gates_at seats v.gate has.gates a reader at_a 0 is in
      let word = (sh.views id v here).last_gate read.0 read.1 in
      let none : awake sh.scene.gone c.seats ≡ 0 = omega (arith, sh.awake_seats, word, read.2) in
      let x = seat_member contents seats v.seats has.members b other at_b in
      let member = member_at (LiesIn contents IsSame given) c sh.scene s.homes id v.seats owns b x.0 x.1 in
      let gone = none_awake sh.scene.gone c.seats none x.0.number member.low in
      (gone.0, sym x.2.retired ∙ sym member.gone ∙ gone.1)

  -- whoever some seat had seen retired has retired, as it was seen
  pub closed_retirees : (told : Seen) → told ≡ all_seen seats → ((p : ℕ × ℕ) → Contains told.retirees p → gone p.0 ≡ Some p.1) → EachSeenRetiredHas seats
  closed_retirees told are rule a b calls one other at_a at_b seen_it =
      let among : Contains told.retirees (other.number, calls) =
      subst (λ (y : Seen). Contains y.retirees (other.number, calls)) (sym are) (retirees_at seats a one (other.number, calls) at_a seen_it) in
      let x = seat_member contents seats v.seats has.members b other at_b in
      let member = member_at (LiesIn contents IsSame given) c sh.scene s.homes id v.seats owns b x.0 x.1 in
      sym x.2.retired ∙ sym member.gone ∙ ap (λ (f : ℕ → Option ℕ). f x.0.number) sh.gone_is ∙ ap gone x.2.number ∙ rule (other.number, calls) among

  -- what a seat had laid in its hand, and what was out, is at home with its bytes
  closed_brought : (b : ℕ × List ℕ) → IsBrought v.seats b → Has (LiesIn contents IsSame given) s.homes b.0 b.1
  closed_brought b is =
      ((member_at (LiesIn contents IsSame given) c sh.scene s.homes id v.seats owns is.at is.member is.here).brought b is.brought).1

  pub closed_held : (P : ℕ × B → Type 0) → ((o : ℕ × B) → Has (LiesIn contents IsSame given) s.homes o.0 (contents o.1) → P o) → (out : List (ℕ × B))
      → OutOrHome contents out [] v.seats → All P (held_buffers seats out)
  closed_held P home out are =
      all_held_buffers P seats out
      (λ a t e i b has.
      let x = seat_member contents seats v.seats has_members a t e in
      home (i, b) (closed_brought (i, contents b) record { at = a; member = x.0; here = x.1; brought = x.2.laid i b has }))
      (λ o has. elim (are o has) [ inl still ↦ absurd (contains_none o still) | inr there ↦ home o (closed_brought (o.0, contents o.1) there) ])
    where
      has_members : AreMembersOf contents seats v.seats
      has_members = has.members

  -- each slot is at home
  pub closed_homes : (i : ℕ) → i < n_of c.order → (w : List ℕ) × Has (LiesIn contents IsSame given) s.homes i w
  closed_homes =
      all_home (LiesIn contents IsSame given) c sh.scene s.homes id v.seats (reaches sh.leads) all brought owns sh.stored

  pub closed_left : (bytes : List (List ℕ))
      → ((i : ℕ) (w : List ℕ) → i < n_of c.order → Has (LiesIn contents IsSame given) s.homes i w → slice_index_or bytes i [] ≡ w)
      → EachLeftIsItsPut c (opening_of contents given) (all_calls seats) (all_hands seats) bytes
  closed_left bytes tells =
      subst (λ (o : List (List ℕ)). EachLeftIsItsPut c o (all_calls seats) (all_hands seats) bytes) (opens_with sh.leads)
      (subst (λ (l : List (List Ended)). EachLeftIsItsPut c m.opening l (all_hands seats) bytes) calls
      (subst (λ (l : List (List ℕ)). EachLeftIsItsPut c m.opening (member_records v.seats) l bytes) hands
      (lefts_at_home (LiesIn contents IsSame given) c m v.seats s.homes bytes (reaches sh.leads) all rest opened sh.stored tells)))

  pub closed_stands : (one : IsOneRun c (opening_of contents given) (callers_of seats)) → one.finished.recorded.state ≡ m → (bytes : List (List ℕ))
      → ((i : ℕ) (w : List ℕ) → i < n_of c.order → Has (LiesIn contents IsSame given) s.homes i w → slice_index_or bytes i [] ≡ w)
      → IsOneRunToTheEnd c (opening_of contents given) (callers_of seats) (all_calls seats) (all_hands seats) bytes
  closed_stands one ends bytes tells =
      record {
        one = one;
        left =
            λ i small left.
            let of_members = subst (λ (l : List (List ℕ)). IsLeft l i) (sym hands) left in
            let here = lefts_stand (LiesIn contents IsSame given) c m v.seats s.homes bytes
            (reaches sh.leads) all rest opened sh.stored tells i small of_members in
            let w = slice_index_or bytes i [] in
            subst (λ (n : Machine). StandsAtItsPut c (opening_of contents given) (all_calls seats) n i w) (sym ends)
            (subst (λ (o : List (List ℕ)). StandsAtItsPut c o (all_calls seats) m i w) (opens_with sh.leads)
            (subst (λ (l : List (List Ended)). StandsAtItsPut c m.opening l m i w) calls here));
      }

  -- the slot of each index has the buffer that was given for it
  pub closed_slot : (items : List (SlotStanding B)) → ((k : ℕ) (y : SlotStanding B) → get_elem? s.homes k ≡ some (some y) → get_elem? items k ≡ some y) → (i : ℕ) (w : List ℕ)
      → (h : Has (LiesIn contents IsSame given) s.homes i w) → slice_get items i ≡ Some (full_slot h.lies.buffer)
  closed_slot items home i w h =
      read_some items i h.value (home i h.value h.here) ∙ ap (λ (o : Option B). Some (record { buffer = o })) h.lies.laid

-- what a closed band's words and slots say, beside the seats
pub record IsShownClosed {B : Type 0} (contents : B → List ℕ) (IsSame : B → B → Type 0) (given : List B) (c : Setup) (seats : List (Standing B))
    (xs : List Member) (ws : List ℕ) (items : List (SlotStanding B)) : Type 0 where
  pub words : (m : Cells) × ShowsWords c ws m × HasIndices c m
  pub laid : (i : ℕ) → i < n_of c.order → (b : B) × (slice_get items i ≡ Some (full_slot b))
  pub gets : EachGetHasItsPut c (opening_of contents given) (all_calls seats)
  pub put_once : NoneIsPutTwice c (opening_of contents given) (all_calls seats)
  pub once : NoneIsGotTwice (all_calls seats)
  pub passed : EachPutPassedIsGot c (opening_of contents given) (all_calls seats) (all_known seats)
  pub hands : EachIsInOneHand c (all_hands seats)
  pub spent : EachSpentIsPastTheBound c (all_calls seats) (all_spent seats)
  pub gate : AllRetiredWhereClosed seats
  pub retirees : EachSeenRetiredHas seats
  pub counts : (left : List ℕ) → length left ≡ c.rings
      → ((m : Cells) → ShowsWords c ws m → (r : ℕ) → r < c.rings → slice_index left r ≡ left_in c m r)
      → IsBalance c (all_calls seats) left × IsAllThere c (all_hands seats) left
  pub same : (buffers : List B) → map full_slot buffers ≡ items → AreTheSame IsSame given buffers
  pub held : (buffers : List B) → map full_slot buffers ≡ items → (out : List (ℕ × B)) → OutOrHome contents out [] xs
      → All (ComesBackAsItWas contents buffers) (held_buffers seats out)
  pub lefts : (buffers : List B) → map full_slot buffers ≡ items
      → EachLeftIsItsPut c (opening_of contents given) (all_calls seats) (all_hands seats) (map contents buffers)
      × IsOneRunToTheEnd c (opening_of contents given) (callers_of seats) (all_calls seats) (all_hands seats) (map contents buffers)

module _ {B : Type 0} where
  -- the buffers are those in the slots
  buffer_at : (buffers : List B) (items : List (SlotStanding B)) → map full_slot buffers ≡ items → (i : ℕ) (b : B) → slice_get items i ≡ Some (full_slot b)
      → slice_get buffers i ≡ Some b
  buffer_at buffers items are i b here =
      let back = map_back full_slot buffers i (full_slot b) (ap (λ (l : List (SlotStanding B)). slice_get l i) are ∙ here) in
      let inner : Some back.0 ≡ Some b = ap (λ (t : SlotStanding B). t.buffer) back.2 in
      back.1 ∙ inner

  pub ends : (contents : B → List ℕ) (IsSame : B → B → Type 0) (given : List B) (c : Setup) (id : ℕ) (w : Sight) (seats : List (Standing B)) (ws : List ℕ)
      (items : List (SlotStanding B)) → Final (OfView (ShowsRun (LiesIn contents IsSame given) (opening_of contents given) c) id w) ws items
      → HasAll contents c.rings seats w.known → w.seen ≡ all_seen seats
      → length seats ≡ c.seats → length given ≡ n_of c.order → IsShownClosed contents IsSame given c seats w.known.seats ws items
  unfolding closed_run
  ends contents IsSame given c id w seats ws items f has told count many =
      let v = w.known in
      let s = known_state f.0 in
      let run = f.1.0.run in
      let gone = f.1.0.gone in
      let sh = f.1.0.shown in
      let here = known_at f.0.views id w f.1.1 in
      let m = sh.scene.state in
      let shows : ShowsWords c ws m.cells = subst (λ (l : List ℕ). ShowsWords c l m.cells) f.2 sh.words in
      let home = closed_homes contents IsSame given c s id v seats gone run sh here has count many in
      let slot = closed_slot contents IsSame given c s id v seats gone run sh here has count many items f.4 in
      let one = closed_run contents IsSame given c s id v seats gone run sh here has count many w.seen (f.1.0.seen id w f.1.1) told in
      let room : length items ≡ length given = sym f.3 ∙ sh.room ∙ sym many in
      record {
        words = (m.cells, shows, has_indices c m (reaches sh.leads));
        laid = λ i low. let h = home i low in (h.1.lies.buffer, slot i h.0 h.1);
        gets = closed_gets contents IsSame given c s id v seats gone run sh here has count many;
        put_once = closed_put_once contents IsSame given c s id v seats gone run sh here has count many;
        once = closed_once contents IsSame given c s id v seats gone run sh here has count many;
        passed = closed_passed contents IsSame given c s id v seats gone run sh here has count many;
        hands = closed_hands contents IsSame given c s id v seats gone run sh here has count many;
        spent = closed_spent contents IsSame given c s id v seats gone run sh here has count many;
        retirees =
            closed_retirees contents IsSame given c s id v seats gone run sh here has count many w.seen told (λ p there. (f.1.0.retirees id w f.1.1 p there).1);
        gate = closed_gate contents IsSame given c s id v seats gone run sh here has count many;
        counts =
            λ left rings each.
            let is : IsLeftOf c m left = record { rings = rings; each = each m.cells shows } in (
              closed_balance contents IsSame given c s id v seats gone run sh here has count many left is,
              closed_all_there contents IsSame given c s id v seats gone run sh here has count many left is,
            );
        same =
            λ buffers are. (
              sym (length_images full_slot buffers) ∙ ap length are ∙ room,
              λ i first last was now.
                  let within = slice_get_within given i first was in
                  let h = home i (omega (arith, within, many)) in
                  let lies = h.1.lies in
                  let at = buffer_at buffers items are i lies.buffer (slot i h.0 h.1) in
                  let one : lies.first ≡ first = some_same lies.first first (sym lies.was ∙ was) in
                  let other : lies.buffer ≡ last = some_same lies.buffer last (sym at ∙ now) in
                  subst (λ (b : B). IsSame first b) other (subst (λ (b : B). IsSame b lies.buffer) one lies.same),
            );
        held =
            λ buffers are.
            closed_held contents IsSame given c s id v seats gone run sh here has count many (ComesBackAsItWas contents buffers)
            (λ o h.
            map_on contents buffers o.0 h.lies.buffer (buffer_at buffers items are o.0 h.lies.buffer (slot o.0 (contents o.1) h))
            ∙ ap (λ (w : List ℕ). Some w) h.lies.bytes);
        lefts =
            λ buffers are.
            let tells : (i : ℕ) (w : List ℕ) → i < n_of c.order → Has (LiesIn contents IsSame given) s.homes i w
            → slice_index_or (map contents buffers) i [] ≡ w =
            λ i w low h.
            let at = buffer_at buffers items are i h.lies.buffer (slot i w h) in
            get_or_from_slice_get (map contents buffers) i (contents h.lies.buffer) [] (map_on contents buffers i h.lies.buffer at) ∙ h.lies.bytes in (
              closed_left contents IsSame given c s id v seats gone run sh here has count many (map contents buffers) tells,
              closed_stands contents IsSame given c s id v seats gone run sh here has count many one sh.leads.ends (map contents buffers) tells,
            );
      }
    where
      some_same : (a b : B) → Some a ≡ Some b → a ≡ b
      some_same a b e = cc

  -- the same, of a band as contracts see it
  pub ended : (contents : B → List ℕ) (IsSame : B → B → Type 0) (table : TableId) (key : Key B) (band : Identity B) (id : ℕ) (v : Sight)
      (seats : List (Standing B)) (ws : List ℕ) (items : List (SlotStanding B)) → identity_of table key ≡ band
      → Final (OfView (ShowsRun (LiesIn contents IsSame key.given.value.items) (opening_of contents key.given.value.items) key.setup) id v) ws items
      → HasAll contents key.setup.rings seats v.known → v.seen ≡ all_seen seats → length seats ≡ band.setup.seats
      → length key.given.value.items ≡ n_of key.setup.order
      → IsShownClosed contents IsSame band.given band.setup seats v.known.seats ws items
  ended contents IsSame table key band id v seats ws items is f has told count many =
      let seats_are : length seats ≡ key.setup.seats = count ∙ ap (λ (b : Identity B). b.setup.seats) (sym is) in
      subst (λ (b : Identity B). IsShownClosed contents IsSame b.given b.setup seats v.known.seats ws items) is
      (ends contents IsSame key.given.value.items key.setup id v seats ws items f has told seats_are many)
