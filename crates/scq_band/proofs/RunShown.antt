-- The rule of the table, of a run: a turn makes it longer by one step, and what else is done leaves it. Plan: what words and views show
-- of the machine is kept already (Moves, Views, Gates, Bringing), for the run after the step or the same; what a view has seen is a prefix
-- of each longer run.
use Rattle.std.proofs.Common.{◌≡◌, ◌≢◌, ℕ, zero, suc, ◌+◌, ◌-◌, ◌%◌, ◌^◌, ◌<◌, ◌≤◌, List, [], ◌∷◌, ◌++◌, map, length, refl, sym, ◌∙◌, ap, subst, inl, inr, arith}
use Rattle.std.specs.Prelude.{Option, Some, None, slice_index, slice_index_or, slice_set}
use Rattle.std.specs.List.{Contains}
use Rattle.std.proofs.lemmas.List.Elements.{Contains-append_cases}
use Rattle.scq_core.specs.Exports.{updated, Busy, read, IsReachable, location_of, writes}
use Rattle.scq_core.proofs.UpdatedLemmas.{updated_here, updated_else}
use mathlib.Core.Option.{some, some-injective, some-ne-none}
use lib.ListN.{get_elem?}
use Rattle.atomic_table.specs.Table.{State, Me, Act, Allows, Splits, Joins, stepped, homes_after, keeps}
use Rattle.atomic_table.specs.Table as table
use Rattle.atomic_table.proofs.Lists.{at_set, at_snoc, set_here, set_else, set_again}
use Rattle.std.proofs.lemmas.List.{set-get_or}
use Rattle.scq_word.specs.declared.setup.Setup.{Setup}
use Rattle.scq_core.specs.declared.phase.Phase.{Phase}
use Rattle.scq_core.specs.declared.step.Step.{Step}
use Rattle.scq_core.specs.Machine.{Machine}
use Rattle.scq_law.proofs.Replays.RunPrefixes.{prefix_whole, prefix_trans, all_prefixes, both_prefixes}
use Rattle.scq_law.specs.Exports.{IsPrefix, AllPrefixes}
use Rattle.scq_band.specs.Exports.{at, Seen, nothing_seen, with_run, both_seen, with_retiree, IsTrue, Member, Owns, awake, first_view, IsReading}
use Rattle.scq_band.specs.Exports.{IsAlone, looked, retired_at, Sight, known_in, known_me, known_state, StandsAfter, Went, GoesOn, Looked}
use Rattle.scq_band.specs.Exports.{WasShownRun, HasFound, retired_ones, first_sight, ShowsRun, my, my_of, turned_member, MayTurn, Carries, Turned}
use Rattle.scq_band.specs.Known.{Known}
use Rattle.scq_band.specs.Shown.{Shown}
use Rattle.scq_band.proofs.Grounds.{ground}
use Rattle.scq_band.proofs.Moves.{moves_by}
use Rattle.scq_band.proofs.Gates.{looks, retires, ones_gone, ones_low}

-- a list of views, without what was seen of the run
pub known_at : (vs : List Sight) (id : ℕ) (v : Sight) → get_elem? vs id ≡ some v → get_elem? (map known_in vs) id ≡ some v.known
known_at [] id v e = absurd (some-ne-none v (sym e))
known_at (x ∷ xs) zero v e = ap (λ (u : Sight). some u.known) (some-injective x v e)
known_at (x ∷ xs) (suc id) v e = known_at xs id v e

known_set : (vs : List Sight) (id : ℕ) (w : Sight) → map known_in (slice_set vs id w) ≡ slice_set (map known_in vs) id w.known
known_set [] id w = refl
known_set (x ∷ xs) zero w = refl
known_set (x ∷ xs) (suc id) w = ap (λ l. x.known ∷ l) (known_set xs id w)

known_more : (vs : List Sight) (w : Sight) → map known_in (vs ++ w ∷ []) ≡ map known_in vs ++ w.known ∷ []
known_more [] w = refl
known_more (x ∷ xs) w = ap (λ l. x.known ∷ l) (known_more xs w)

index_low : (l : List Known) (i : ℕ) (a : Known) → get_elem? l i ≡ some a → i < length l
index_low [] i a e = absurd (some-ne-none a (sym e))
index_low (y ∷ ys) zero a e = omega arith
index_low (y ∷ ys) (suc i) a e = let low = index_low ys i a e in omega arith

-- what each view has seen, and what a view that takes the place of one, or comes behind them, has seen, is what each then has seen
each_set : (P : Seen → Type 0) (vs : List Sight) (id : ℕ) (w : Sight) → P w.seen → ((j : ℕ) (v : Sight) → get_elem? vs j ≡ some v → P v.seen)
    → (j : ℕ) (v : Sight) → get_elem? (slice_set vs id w) j ≡ some v → P v.seen
each_set P vs id w new each j v e =
    elim (at_set vs id j w v e) [
      | inl own ↦ subst (λ (u : Sight). P u.seen) own.1 new
      | inr other ↦ each j v other.1
    ]

each_snoc : (P : Seen → Type 0) (vs : List Sight) (w : Sight) → P w.seen → ((j : ℕ) (v : Sight) → get_elem? vs j ≡ some v → P v.seen)
    → (j : ℕ) (v : Sight) → get_elem? (vs ++ w ∷ []) j ≡ some v → P v.seen
each_snoc P vs w new each j v e =
    elim (at_snoc vs w v j e) [
      | inl old ↦ each j v old
      | inr same ↦ subst (λ (u : Sight). P u.seen) same new
    ]

-- prefixes of the run, and seats that have retired
abbrev Began : List (ℕ × Step) → Seen → Type 0
Began run x = AllPrefixes x.runs run

abbrev AreGone : Setup → (ℕ → Option ℕ) → Seen → Type 0
AreGone c gone x = (p : ℕ × ℕ) → Contains x.retirees p → (p.0 < c.seats) × (gone p.0 ≡ Some p.1)

none_gone : (c : Setup) (gone : ℕ → Option ℕ) → AreGone c gone nothing_seen
none_gone c gone p has = absurd (omega (arith, has.1))

-- the run before some steps is a prefix of the run after them
pub began : (c : Setup) (opening : List (List ℕ)) (a b : Sight) (went : Went c opening a b) → IsPrefix went.before went.after
began c opening a b went =
    let step : List (ℕ × Step) = ((my a.known).number, went.first) ∷ [] in
    prefix_trans went.before (went.before ++ step) went.after (record { more = step; is = refl }) went.begins

-- the one of a list of one
one_of : (x p : ℕ × ℕ) → Contains (x ∷ []) p → x ≡ p
one_of x p has = at has.0 has.1 has.2
  where
    at : (j : ℕ) → j < 1 → slice_index_or (x ∷ []) j p ≡ p → x ≡ p
    at zero low is = is
    at (suc j) low is = absurd (omega (arith, low))

-- steps that go on
pub went_on : {c : Setup} {opening : List (List ℕ)} {a b d : Sight} → Went c opening a b → Went c opening b d → Went c opening a d
went_on {c} {opening} {a} {b} {d} one other =
    let next : IsPrefix one.after other.before = (subst (λ (x : Seen). AllPrefixes x.runs other.before) one.has_seen other.had_seen).0 in
    let start = one.before ++ ((my a.known).number, one.first) ∷ [] in
    record {
      before = one.before;
      after = other.after;
      had_seen = one.had_seen;
      first = one.first;
      begins = prefix_trans start one.after other.after one.begins (prefix_trans one.after other.before other.after next (began c opening b d other));
      last = other.last;
      ends = other.ends;
      has_seen = other.has_seen ∙ ap (with_run other.after) one.has_seen;
      was = one.was;
      now = other.now;
      numbers = other.numbers;
    }

pub goes_then : {c : Setup} {opening : List (List ℕ)} {a b d : Sight} → GoesOn c opening a b → Went c opening b d → Went c opening a d
goes_then {c} {opening} {a} {b} {d} (inl same) went = subst (λ (v : Sight). Went c opening v d) same went
goes_then (inr one) went = went_on one went

module _ {S : Type 0} (Lies : ℕ → S → List ℕ → Type 0) where
  -- the part of the one seat of a view, after the run
  stands_after : (opening : List (List ℕ)) (c : Setup) (gone : ℕ → Option ℕ) (run : List (ℕ × Step)) (s : State S Known) (id : ℕ) (v : Known)
      (sh : Shown Lies opening c gone run s)
      → get_elem? s.views id ≡ some v → v.seats ≡ my v ∷ [] → StandsAfter c opening run (my v)
  stands_after opening c gone run s id v sh here alone =
      let owns : Owns Lies c sh.scene s.homes id (my v ∷ []) =
      subst (λ (xs : List Member). Owns Lies c sh.scene s.homes id xs) alone (sh.views id v here).seats in
      record {
        recorded = sh.leads.recorded;
        is_run = sh.leads.is_run;
        part = ap (λ (m : Machine). m.part (my v).number) sh.leads.ends ∙ owns.0.part;
      }

  -- a turn may be made, whatever the table is when its word changes: it is the next step of the run
  pub moves : {opening : List (List ℕ)} (c : Setup) (slots id : ℕ) (me : Me S Sight) (t : Phase) (i : ℕ) (f : ℕ → ℕ) (may : MayTurn c me.0.known t)
      → Carries Lies t me.1
      → i ≡ at c (location_of c t)
      → ((m : Machine) → IsReachable c m → Busy c m.cells may.member.part.hand t
      → f (read m.cells (location_of c t)) ≡ writes c t (read m.cells (location_of c t)))
      → Allows (ShowsRun Lies opening c) slots id me i f
      (λ x later. Turned Lies c t (known_me me) x (known_me later)
      × Went c opening me.0 later.0)
  unfolding stands_after
  moves {opening} c slots id me t i f may carries word does s sh many here small =
      let there : get_elem? (map known_in s.views) id ≡ some me.0.known = known_at s.views id me.0 here in
      let a = moves_by Lies {opening = opening} {gone = sh.gone} {run = sh.run} c slots id (known_me me) t i f may carries word does
      (λ m k step reach low enabled. ground c m k step t reach low enabled) (known_state s) sh.shown there in
      let longer = sh.run ++ (may.member.number, may.step) ∷ [] in
      let w : Sight = record { known = a.0; seen = with_run longer me.0.seen } in
      let grown : IsPrefix sh.run longer = record { more = (may.member.number, may.step) ∷ []; is = refl } in
      let ws = slice_set s.words i (f (slice_index s.words i)) in
      let hs = homes_after s.homes me.1 a.1 in
      let shown : ShowsRun Lies opening c (stepped s i (f (slice_index s.words i)) id me.1 w a.1) = record {
        run = longer;
        shown = subst (λ (vs : List Known). Shown Lies opening c sh.gone longer (record { words = ws; homes = hs; views = vs })) (sym
            (known_set s.views id w)) a.3;
        seen = each_set (Began longer) s.views id w (prefix_whole longer, tt) (λ j v e. all_prefixes v.seen.runs sh.run longer (sh.seen j v e) grown);
        gone = sh.gone;
        retirees = each_set (AreGone c sh.gone) s.views id w (sh.retirees id me.0 here) sh.retirees;
      } in
      let before_alone : me.0.known.seats ≡ my me.0.known ∷ [] =
      subst (λ (xs : List Member). xs ≡ my_of xs ∷ []) (sym may.alone) refl in
      let after_alone : a.0.seats ≡ my a.0 ∷ [] =
      subst (λ (u : Known). u.seats ≡ my u ∷ []) (sym a.4.view)
      (subst (λ (xs : List Member). map (turned_member c t (slice_index s.words i) a.4.beside) xs ≡ my_of (map (turned_member c t (slice_index s.words i)
      a.4.beside) xs) ∷ []) (sym may.alone) refl) in
      let before_number : may.member.number ≡ (my me.0.known).number = ap (λ (xs : List Member). (my_of xs).number) (sym may.alone) in
      let after_number : may.member.number ≡ (my a.0).number =
      ap (λ (xs : List Member). (my_of (map (turned_member c t (slice_index s.words i) a.4.beside) xs)).number) (sym may.alone)
      ∙ ap (λ (u : Known). (my u).number) (sym a.4.view) in
      let later : State S Known = record { words = ws; homes = hs; views = slice_set (map known_in s.views) id a.0 } in
      let own_view : get_elem? later.views id ≡ some a.0 =
      set_here (map known_in s.views) id a.0 (index_low (map known_in s.views) id me.0.known there) in
      let went : Went c opening me.0 w = record {
        before = sh.run;
        after = longer;
        had_seen = sh.seen id me.0 here;
        first = may.step;
        begins = subst (λ (k : ℕ). IsPrefix (sh.run ++ (k, may.step) ∷ []) longer) before_number (prefix_whole longer);
        last = may.step;
        ends = record { others = sh.run; is = ap (λ (k : ℕ). sh.run ++ (k, may.step) ∷ []) after_number };
        has_seen = refl;
        was = stands_after opening c sh.gone sh.run (known_state s) id me.0.known sh.shown there before_alone;
        now = stands_after opening c sh.gone longer later id a.0 a.3 own_view after_alone;
        numbers = λ r x e. subst (λ (m : Machine). IsTrue c m r x) (sym a.3.leads.ends) ((a.3.views id a.0 own_view).numbers r x e);
      } in
      (w, a.1, a.2, shown, (a.4, went))

  -- what makes no step leaves the run
  pub stays : {opening : List (List ℕ)} (c : Setup) (slots id : ℕ) (me : Me S Sight) (i : ℕ) (f : ℕ → ℕ) (then1 : ℕ → Me S Known → Type 0)
      → ((gone : ℕ → Option ℕ) (run : List (ℕ × Step)) → Allows (Shown Lies opening c gone run) slots id (known_me me) i f then1)
      → Allows (ShowsRun Lies opening c) slots id me i f (λ x later. then1 x (known_me later) × (later.0.seen ≡ me.0.seen))
  stays {opening} c slots id me i f then1 allows s sh many here small =
      let a = allows sh.gone sh.run (known_state s) sh.shown many (known_at s.views id me.0 here) small in
      let w : Sight = record { known = a.0; seen = me.0.seen } in
      let ws = slice_set s.words i (f (slice_index s.words i)) in
      let hs = homes_after s.homes me.1 a.1 in
      let shown : ShowsRun Lies opening c (stepped s i (f (slice_index s.words i)) id me.1 w a.1) = record {
        run = sh.run;
        shown = subst (λ (vs : List Known). Shown Lies opening c sh.gone sh.run (record { words = ws; homes = hs; views = vs })) (sym
            (known_set s.views id w)) a.3;
        seen = each_set (Began sh.run) s.views id w (sh.seen id me.0 here) sh.seen;
        gone = sh.gone;
        retirees = each_set (AreGone c sh.gone) s.views id w (sh.retirees id me.0 here) sh.retirees;
      } in
      (w, a.1, a.2, shown, (a.4, refl))

  -- a seat that has not retired may retire
  pub retires_run : {opening : List (List ℕ)} (c : Setup) (slots id : ℕ) (me : Me S Sight) → IsAlone me.0.known → (my me.0.known).retired ≡ None
      → Allows (ShowsRun Lies opening c) slots id me 0 (λ n. (n + (2 ^ 64 - 1)) % 2 ^ 64)
      (λ n later. ((later.0.known ≡ retired_at me.0.known) × (later.1 ≡ me.1)) × (later.0.seen ≡ with_retiree ((my me.0.known).number, length (my me.0.known).part.calls) me.0.seen))
  retires_run {opening} c slots id me alone awake_yet s sh many here small =
      let there : get_elem? (map known_in s.views) id ≡ some me.0.known = known_at s.views id me.0 here in
      let a = retires Lies {opening = opening} {gone = sh.gone} {run = sh.run} c id (known_me me) alone awake_yet (known_state s) sh.shown there small in
      let w : Sight = record {
        known = retired_at me.0.known;
        seen = with_retiree ((my me.0.known).number, length (my me.0.known).part.calls) me.0.seen;
      } in
      let ws = slice_set s.words 0 ((slice_index s.words 0 + (2 ^ 64 - 1)) % 2 ^ 64) in
      let k = (my me.0.known).number in
      let calls = length (my me.0.known).part.calls in
      let gone = updated sh.gone k (Some calls) in
      let stay : (p : ℕ × ℕ) → (p.0 < c.seats) × (sh.gone p.0 ≡ Some p.1) → (p.0 < c.seats) × (gone p.0 ≡ Some p.1) =
      λ p was.
      let other : p.0 ≢ k = λ e. let never : None ≡ Some p.1 = sym a.1 ∙ ap sh.gone (sym e) ∙ was.1 in absurd (cc) in
      (was.0, updated_else sh.gone k (Some calls) p.0 other ∙ was.1) in
      let mine : AreGone c gone w.seen =
      λ p has.
      elim (Contains-append_cases ((k, calls) ∷ []) me.0.seen.retirees p has) [
        | inl itself ↦
            let owns : Owns Lies c sh.shown.scene s.homes id (my me.0.known ∷ []) =
            subst (λ (xs : List Member). Owns Lies c sh.shown.scene s.homes id xs) alone.seats (sh.shown.views id me.0.known there).seats in
            subst (λ (q : ℕ × ℕ). (q.0 < c.seats) × (gone q.0 ≡ Some q.1)) (one_of (k, calls) p itself)
            (owns.0.low, updated_here sh.gone k (Some calls))
        | inr before ↦ stay p (sh.retirees id me.0 here p before)
      ] in
      let shown : ShowsRun Lies opening c (stepped s 0 ((slice_index s.words 0 + (2 ^ 64 - 1)) % 2 ^ 64) id me.1 w keeps) = record {
        run = sh.run;
        gone = gone;
        shown = subst (λ (vs : List Known). Shown Lies opening c gone sh.run (record { words = ws; homes = s.homes; views = vs })) (sym
            (known_set s.views id w)) a.0;
        seen = each_set (Began sh.run) s.views id w (sh.seen id me.0 here) sh.seen;
        retirees = each_set (AreGone c gone) s.views id w mine (λ j v e p has. stay p (sh.retirees j v e p has));
      } in
      (w, keeps, tt, shown, ((refl, refl), refl))

  -- the gate may be read: the reader has then seen the rule's run
  pub looks_run : {opening : List (List ℕ)} (c : Setup) (slots id : ℕ) (me : Me S Sight)
      → Allows (ShowsRun Lies opening c) slots id me 0 (λ n. n)
      (λ n later. (later.0.known ≡ looked n me.0.known) × (later.1 ≡ me.1) × IsReading c.seats me.0.known.gate (my me.0.known).retired n
      × Looked c opening me.0 later.0 n)
  looks_run {opening} c slots id me s sh many here small =
      let there : get_elem? (map known_in s.views) id ≡ some me.0.known = known_at s.views id me.0 here in
      let a = looks Lies {opening = opening} {gone = sh.gone} {run = sh.run} c slots id (known_me me) (known_state s) sh.shown many there small in
      let now : Seen = record { runs = sh.run ∷ []; retirees = retired_ones sh.gone c.seats } in
      let w : Sight = record { known = a.0; seen = now } in
      let ws = slice_set s.words 0 (slice_index s.words 0) in
      let hs = homes_after s.homes me.1 a.1 in
      let shown : ShowsRun Lies opening c (stepped s 0 (slice_index s.words 0) id me.1 w a.1) = record {
        run = sh.run;
        shown = subst (λ (vs : List Known). Shown Lies opening c sh.gone sh.run (record { words = ws; homes = hs; views = vs })) (sym
            (known_set s.views id w)) a.3;
        seen = each_set (Began sh.run) s.views id w (prefix_whole sh.run, tt) sh.seen;
        gone = sh.gone;
        retirees = each_set (AreGone c sh.gone) s.views id w (λ p has. (ones_low sh.gone c.seats p has, ones_gone sh.gone c.seats p has)) sh.retirees;
      } in
      let its : Looked c opening me.0 w (slice_index s.words 0) = record {
        after = sh.run;
        had_seen = sh.seen id me.0 here;
        gone = sh.gone;
        has_seen = refl;
        still = λ p has. sh.retirees id me.0 here p has;
        stands = λ alone. stands_after opening c sh.gone sh.run (known_state s) id me.0.known sh.shown there alone;
        own =
            λ alone.
            let owns : Owns Lies c sh.shown.scene s.homes id (my me.0.known ∷ []) =
            subst (λ (xs : List Member). Owns Lies c sh.shown.scene s.homes id xs) alone (sh.shown.views id me.0.known there).seats in
            (owns.0.low, ap (λ (f : ℕ → Option ℕ). f (my me.0.known).number) (sym sh.shown.gone_is) ∙ owns.0.gone);
        made =
            λ k n is.
            record {
              steps = sh.run;
              among = (0, omega arith, refl);
              recorded = sh.shown.leads.recorded;
              is_run = sh.shown.leads.is_run;
              made = subst (λ (m : Machine). n ≤ length (m.part k).calls) (sym sh.shown.leads.ends) (sh.shown.made k n is);
            };
        awake_seats = sh.shown.awake_seats ∙ ap (λ (f : ℕ → Option ℕ). awake f c.seats) sh.shown.gone_is;
      } in
      (w, a.1, a.2, shown, (a.4.0, a.4.1, a.4.2, its))

  -- the rule's run may be shown to a seat, which finds there what stands at a word
  pub shows_run : {opening : List (List ℕ)} (c : Setup) (slots id : ℕ) (me : Me S Sight) (word : ℕ)
      → Allows (ShowsRun Lies opening c) slots id me word (λ n. n)
      (λ n later. (later.0.known ≡ me.0.known) × (later.1 ≡ me.1) × HasFound c opening word n me.0 later.0)
  unfolding stands_after
  shows_run {opening} c slots id me word s sh many here small =
      let there : get_elem? (map known_in s.views) id ≡ some me.0.known = known_at s.views id me.0 here in
      let w : Sight = record { known = me.0.known; seen = with_run sh.run me.0.seen } in
      let ws = slice_set s.words word (slice_index s.words word) in
      let words : Shown Lies opening c sh.gone sh.run (record { words = ws; homes = s.homes; views = map known_in s.views }) =
      subst (λ (l : List ℕ). Shown Lies opening c sh.gone sh.run (record { words = l; homes = s.homes; views = map known_in s.views })) (sym
      (set-get_or s.words word 0)) sh.shown in
      let shown : ShowsRun Lies opening c (stepped s word (slice_index s.words word) id me.1 w keeps) = record {
        run = sh.run;
        shown = subst (λ (vs : List Known). Shown Lies opening c sh.gone sh.run (record { words = ws; homes = s.homes; views = vs })) (sym
            (known_set s.views id w ∙ set_again (map known_in s.views) id me.0.known there)) words;
        seen = each_set (Began sh.run) s.views id w (prefix_whole sh.run, tt) sh.seen;
        gone = sh.gone;
        retirees = each_set (AreGone c sh.gone) s.views id w (sh.retirees id me.0 here) sh.retirees;
      } in
      let was : WasShownRun c opening me.0 w = record {
        steps = sh.run;
        had_seen = sh.seen id me.0 here;
        has_seen = refl;
        stands = λ alone. stands_after opening c sh.gone sh.run (known_state s) id me.0.known sh.shown there alone;
      } in
      let its : HasFound c opening word (slice_index s.words word) me.0 w = record {
        shown = was;
        found =
            λ alone l low is.
            ap (slice_index s.words) is ∙ sh.shown.words.shows l low
            ∙ ap (λ (m : Machine). read m.cells l) (sym sh.shown.leads.ends);
      } in
      (w, keeps, tt, shown, (refl, refl, its))

  pub splits_run : {opening : List (List ℕ)} (c : Setup) (id : ℕ) (v left right : Sight) → left.seen ≡ v.seen → right.seen ≡ v.seen
      → ((gone : ℕ → Option ℕ) (run : List (ℕ × Step)) → Splits (Shown Lies opening c gone run) id v.known left.known right.known)
      → Splits (ShowsRun Lies opening c) id v left right
  splits_run {opening} c id v left right one other splits s sh here =
      let mine = sh.seen id v here in
      let gone = sh.retirees id v here in
      let made = splits sh.gone sh.run (known_state s) sh.shown (known_at s.views id v here) in
      let lists : map known_in (slice_set s.views id left ++ right ∷ []) ≡ slice_set (map known_in s.views) id left.known ++ right.known ∷ [] =
      known_more (slice_set s.views id left) right ∙ ap (λ (l : List Known). l ++ right.known ∷ []) (known_set s.views id left) in
      record {
        run = sh.run;
        shown = subst (λ (vs : List Known). Shown Lies opening c sh.gone sh.run (record { words = s.words; homes = s.homes; views = vs })) (sym lists) made;
        seen = each_snoc (Began sh.run) (slice_set s.views id left) right (subst (Began sh.run) (sym other) mine)
            (each_set (Began sh.run) s.views id left (subst (Began sh.run) (sym one) mine) sh.seen);
        gone = sh.gone;
        retirees = each_snoc (AreGone c sh.gone) (slice_set s.views id left) right (subst (AreGone c sh.gone) (sym other) gone)
            (each_set (AreGone c sh.gone) s.views id left (subst (AreGone c sh.gone) (sym one) gone) sh.retirees);
      }

  pub joins_run : {opening : List (List ℕ)} (c : Setup) (id : ℕ) (v : Sight) (other : ℕ) (w both spent : Sight) → both.seen ≡ both_seen v.seen w.seen
      → spent.seen ≡ nothing_seen
      → ((gone : ℕ → Option ℕ) (run : List (ℕ × Step)) → Joins (Shown Lies opening c gone run) id v.known other w.known both.known spent.known)
      → Joins (ShowsRun Lies opening c) id v other w both spent
  joins_run {opening} c id v other w both spent all none joins s sh here apart there =
      let mine = sh.seen id v here in
      let at_other = sym (set_else s.views id other both apart) ∙ there in
      let its = sh.seen other w at_other in
      let gone : AreGone c sh.gone (both_seen v.seen w.seen) =
      λ p has.
      elim (Contains-append_cases v.seen.retirees w.seen.retirees p has) [
        | inl first ↦ sh.retirees id v here p first
        | inr second ↦ sh.retirees other w at_other p second
      ] in
      let known_there : get_elem? (slice_set (map known_in s.views) id both.known) other ≡ some w.known =
      subst (λ (vs : List Known). get_elem? vs other ≡ some w.known) (known_set s.views id both) (known_at (slice_set s.views id both) other w there) in
      let made = joins sh.gone sh.run (known_state s) sh.shown (known_at s.views id v here) apart known_there in
      let lists : map known_in (slice_set (slice_set s.views id both) other spent) ≡ slice_set (slice_set
      (map known_in s.views) id both.known) other spent.known =
      known_set (slice_set s.views id both) other spent ∙ ap (λ (l : List Known). slice_set l other spent.known) (known_set s.views id both) in
      record {
        run = sh.run;
        shown = subst (λ (vs : List Known). Shown Lies opening c sh.gone sh.run (record { words = s.words; homes = s.homes; views = vs })) (sym lists) made;
        seen = each_set (Began sh.run) (slice_set s.views id both) other spent (subst (Began sh.run) (sym none) tt)
            (each_set (Began sh.run) s.views id both (subst (Began sh.run) (sym all) (both_prefixes v.seen.runs w.seen.runs sh.run mine its)) sh.seen);
        gone = sh.gone;
        retirees = each_set (AreGone c sh.gone) (slice_set s.views id both) other spent (subst (AreGone c sh.gone) (sym none) (none_gone c sh.gone))
            (each_set (AreGone c sh.gone) s.views id both (subst (AreGone c sh.gone) (sym all) gone) sh.retirees);
      }

  -- the table at the start shows the run of no steps
  pub opens_run : (c : Setup) (ws : List ℕ) (xs : List S) (contents : List (List ℕ)) → Shown Lies contents c (λ k. None) [] (table.opening ws xs (first_view c))
      → ShowsRun Lies contents c (table.opening ws xs (first_sight c))
  opens_run c ws xs contents shown =
      record {
        run = [];
        gone = λ k. None;
        shown = shown;
        seen = each_snoc (Began []) [] (first_sight c) tt (λ j v e. absurd (some-ne-none v (sym e)));
        retirees = each_snoc (AreGone c (λ k. None)) [] (first_sight c) (none_gone c (λ k. None)) (λ j v e. absurd (some-ne-none v (sym e)));
      }
